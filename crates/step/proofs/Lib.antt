pub mod TailLaws
pub mod ContractLaws
