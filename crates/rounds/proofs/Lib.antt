pub mod RunCode
pub mod RunLoop
pub mod Fields
