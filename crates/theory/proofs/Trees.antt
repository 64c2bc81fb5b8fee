pub mod NameLaws
pub mod PathLaws
pub mod TreeParts
pub mod VisitedTrees
