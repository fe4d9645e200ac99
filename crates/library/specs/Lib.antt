-- What the contracts of the library's code cite beside the calculus.
pub mod Entries
