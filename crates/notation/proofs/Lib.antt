pub mod SignLaws
pub mod Complete
pub mod Sound
pub mod Bounded
pub mod Expressible
pub mod TermLaws
pub mod ReadingLaws
pub mod Examples
