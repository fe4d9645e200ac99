-- What the contracts of a walk over words cite beside the calculus.
pub mod Index
pub mod Depths
pub mod Rewritten
pub mod Scopes
