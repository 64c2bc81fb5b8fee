pub mod CompleteLaws
pub mod AgreeLaws
pub mod RuleLaws
pub mod LoopLaws
