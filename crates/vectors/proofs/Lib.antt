pub mod ChecksumLaws
pub mod FillLaws
