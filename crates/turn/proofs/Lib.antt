pub mod CompareLaws
pub mod TurnLaws
pub mod AgreeLaws
pub mod ResumeLaws
pub mod Cases
