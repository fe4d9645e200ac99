-- What a press and a showing do, as functions of everything at entry, and the claim about lists of presses.
pub mod State
pub mod Answer
pub mod Press
pub mod Pressing
pub mod Limits
pub mod Presses
pub mod Claim
pub mod Showing
pub mod Examples
