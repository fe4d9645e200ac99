-- What the code's types stand for.
pub mod Types
