-- Lines: the grammar that gives them their terms, how a line is read, and what a call that reads one does.
pub mod Grammar
pub mod Reader
pub mod Reading
pub mod Theorems
pub mod Examples
