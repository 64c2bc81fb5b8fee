pub mod Automaton
pub mod Merge
pub mod LeastMerge
pub mod LeastLocal
pub mod LeastSingleType
pub mod TableAutomaton
pub mod ReducedAutomaton
pub mod PairAutomaton
