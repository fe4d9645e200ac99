pub mod ByteLaws
pub mod Storing
pub mod DecodeLaws
pub mod DecimalLaws
