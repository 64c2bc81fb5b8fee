pub mod VisitedNodes
pub mod NumberingLaws
pub mod SampleByNodes
pub mod FillLaws
pub mod ParentLaws
pub mod TypeLaws
