-- What a vector's line says, and when it passes.
pub mod Keywords
pub mod Answers
pub mod Pair
pub mod Stored
pub mod Typed
pub mod Encoded
pub mod Vector
pub mod Examples
