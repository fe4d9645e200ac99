-- What the contracts of loading and writing cite beside the definitions of stored tables.
pub mod Types
pub mod Judging
