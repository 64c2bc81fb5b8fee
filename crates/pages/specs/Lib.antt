pub mod Printing
pub mod MostBytes
