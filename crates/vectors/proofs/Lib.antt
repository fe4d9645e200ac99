pub mod StepLaws
pub mod StoredLaws
pub mod TypedLaws
pub mod EncodedLaws
pub mod TallyLaws
pub mod Examples
