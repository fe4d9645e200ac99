-- What the contracts of the code on records cite beside the definitions of stored tables.
pub mod Types
pub mod Preconditions
pub mod Counting
pub mod Chains
