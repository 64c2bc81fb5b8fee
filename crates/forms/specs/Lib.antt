pub mod SetForms
pub mod SetWords
pub mod Worklist
