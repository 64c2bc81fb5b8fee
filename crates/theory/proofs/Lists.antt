pub mod BoolLaws
pub mod ListLaws
pub mod PlaceLaws
pub mod DistinctLaws
pub mod NoTwo
