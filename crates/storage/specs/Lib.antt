-- Stored tables ("The stored table"): their records, what is refused of them, what a table means, and what the calls that load one and write one do.
pub mod Records
pub mod Header
pub mod Values
pub mod Payload
pub mod Links
pub mod Children
pub mod Refusals
pub mod Meaning
pub mod FreeNumbers
pub mod Load
pub mod Write
pub mod PrefixOrder
pub mod Theorems
pub mod Examples
