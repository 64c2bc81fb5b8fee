pub mod WidenLaws
pub mod StartTypes
pub mod ReducedLaws
pub mod UnionLaws
