-- The binary lambda calculus: the bits of a term, bits in bytes, which term an encoding has, and what the calls that bring one in and hand one out do.
pub mod Bits
pub mod Bytes
pub mod Decoding
pub mod Encoded
pub mod Import
pub mod Export
pub mod Theorems
pub mod Examples
