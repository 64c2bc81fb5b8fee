pub mod AlternativeLaws
pub mod GatheringLaws
pub mod ChoiceLaws
pub mod EmittedContent
pub mod MetPairs
pub mod EmittedRule
pub mod MarkingRules
