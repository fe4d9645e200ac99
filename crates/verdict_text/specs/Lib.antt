-- The line that the verdict program prints, and its bytes.
pub mod Line
pub mod Types
