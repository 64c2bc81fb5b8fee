pub mod Walks
pub mod UnitedLabels
pub mod View
pub mod Rounds
pub mod PairNumbers
pub mod TypeLists
pub mod Places
