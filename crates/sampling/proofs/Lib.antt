pub mod RuleLaws
pub mod SampleWritten
pub mod SampleIndexed
