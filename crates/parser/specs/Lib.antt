-- What the contracts of the parser cite beside the reader of the notation.
pub mod Scan
