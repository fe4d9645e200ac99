-- What the contracts of importing and exporting cite beside the encodings themselves.
pub mod Types
pub mod Words
pub mod Scan
