pub mod TypesKeptLaws
pub mod SourceLaws
pub mod EmitLaws
