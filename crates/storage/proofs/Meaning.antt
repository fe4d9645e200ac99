-- What a table means: that the records that meet no refusal mean one accepted term.
pub mod Nodes
pub mod MeaningLaws
pub mod Extent
pub mod ChainMeaning
pub mod Exists
pub mod Accepts
pub mod SoundMeans
