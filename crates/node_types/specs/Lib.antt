pub mod NodeTypes
pub mod KnownDocument
