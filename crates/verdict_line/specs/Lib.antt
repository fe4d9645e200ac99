-- What the verdict program prints for the bytes that it reads.
pub mod Line
pub mod Judge
pub mod Examples
