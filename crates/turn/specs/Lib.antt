-- What the contracts of comparison, judgement and taking up again cite beside the calculus.
pub mod Compare
pub mod Turn
pub mod Types
pub mod Resume
