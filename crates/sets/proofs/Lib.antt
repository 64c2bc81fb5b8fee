pub mod BitLaws
pub mod BuiltSets
pub mod SetLaws
pub mod SizeLaws
pub mod WordByWord
