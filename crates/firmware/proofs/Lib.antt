-- Laws about what C sees.
pub mod CountLaws
pub mod PressLaws
pub mod ShowLaws
pub mod Fields
pub mod Examples
