pub mod LineLaws
pub mod JudgeLaws
pub mod Examples
