-- What the contracts of shift and substitution cite beside the walk.
pub mod Kinds
pub mod Results
pub mod Measure
