pub mod Drafts
pub mod Notes
