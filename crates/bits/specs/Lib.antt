-- What the contracts of reading and putting bits cite beside the encodings.
pub mod Runs
pub mod Tokens
