pub mod TextLaws
pub mod ComparedLaws
pub mod ListLaws
