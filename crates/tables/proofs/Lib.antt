pub mod FreeNumbers
pub mod ReadingMeaning
pub mod JudgingLaws
pub mod LoadCode
pub mod EntriesLaws
pub mod WriteCode
pub mod Fields
