-- What the contracts of the plans cite beside the calculus.
pub mod Held
pub mod Rules
pub mod Next
pub mod Plan
