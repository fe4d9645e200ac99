pub mod EndsLaws
pub mod SearchLaws
