pub mod PairsListed
pub mod PairsMet
