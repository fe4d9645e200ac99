-- What the contracts of the check for a whole term cite beside the calculus and the words.
pub mod Frames
pub mod Packed
pub mod IsTerm
