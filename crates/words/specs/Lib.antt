-- What the contracts of the words' code cite beside the calculus.
pub mod Limits
pub mod Bound
pub mod Placed
pub mod Room
pub mod Types
