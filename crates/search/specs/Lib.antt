-- What the contracts of the search cite beside the plan.
pub mod Ends
pub mod Seen
pub mod Search
