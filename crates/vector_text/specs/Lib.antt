-- What stands at a position of a vector's line, and words beside those that they should be.
pub mod Text
pub mod Compared
pub mod Lists
