pub mod SampleRuns
pub mod SampleRules
pub mod SampleDocument
