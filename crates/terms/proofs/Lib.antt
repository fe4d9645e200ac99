pub mod Scan
pub mod Stack
pub mod IsTerm
pub mod FreeNumbers
