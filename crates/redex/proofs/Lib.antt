pub mod HeldLaws
pub mod PartsTurns
pub mod RedexLaws
pub mod PlaceLaws
pub mod NextLaws
pub mod PlanLaws
