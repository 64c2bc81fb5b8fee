pub mod Chains
pub mod LabelKeys
