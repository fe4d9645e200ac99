-- Bytes and text for the programs: words in bytes, numbers in base ten, and the words that several programs read or print.
pub mod Bytes
pub mod Decode
pub mod Decimal
pub mod Names
