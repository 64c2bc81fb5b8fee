pub mod ChainLaws
pub mod LabelKeyLaws
