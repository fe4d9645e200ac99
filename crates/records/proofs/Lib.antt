pub mod EveryLaws
pub mod RecordLaws
pub mod PayloadLaws
pub mod Namings
pub mod Walks
pub mod Chains
