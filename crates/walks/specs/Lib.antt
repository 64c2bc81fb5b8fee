pub mod TypeSets
pub mod WalkAt
