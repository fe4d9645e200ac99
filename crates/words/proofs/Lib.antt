pub mod Spans
pub mod PlacedLaws
pub mod BringingLaws
pub mod RoomLaws
pub mod Cases
pub mod ClearLaws
pub mod BoundLaws
