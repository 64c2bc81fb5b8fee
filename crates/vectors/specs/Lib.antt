pub mod Checksum
pub mod CaseFile
