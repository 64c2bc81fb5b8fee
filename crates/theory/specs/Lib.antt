pub mod Alternatives
pub mod Conditions
pub mod Marked
pub mod MarkedWalk
pub mod SamplePaths
pub mod StageLaws
