pub mod ScanLaws
pub mod WalkLaws
pub mod PuttingLaws
pub mod CombinatorLaws
pub mod ImportCode
pub mod ExportCode
pub mod Fields
