-- What C sees of the unit's calls.
pub mod Numbers
pub mod Calls
pub mod Examples
