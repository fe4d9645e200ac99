pub mod PressCode
pub mod ShowingLaws
pub mod Fields
