pub mod Completing
pub mod Joining
