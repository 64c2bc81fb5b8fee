pub mod SampleContents
pub mod SampleTexts
