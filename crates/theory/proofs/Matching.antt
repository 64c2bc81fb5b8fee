pub mod Matching
pub mod Membership
pub mod MarkedLaws
pub mod MarkedWords
pub mod MarkedRun
pub mod MarkedPass
