pub mod PutLaws
pub mod TableLaws
pub mod TableSize
pub mod WroteLaws
