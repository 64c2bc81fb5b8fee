pub mod RowLaws
pub mod NoteLaws
pub mod KeptLaws
pub mod AmongLaws
pub mod FinishLaws
pub mod WideLaws
pub mod GatherLaws
