pub mod RunLaws
pub mod WindowLaws
pub mod ZeroLaws
pub mod TokenLaws
pub mod PutLaws
