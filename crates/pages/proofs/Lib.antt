pub mod LineLaws
pub mod TextLaws
pub mod RowLaws
pub mod SheetLaws
pub mod CallLaws
pub mod MostPages
