-- What the contracts of the rounds cite beside a round's judgement and what the next round takes up.
pub mod Advance
pub mod Run
pub mod Types
