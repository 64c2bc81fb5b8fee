pub mod FieldAt
pub mod ExprAt
pub mod Extents
pub mod ContentAt
pub mod TableIndex
pub mod Held
pub mod NamePlaces
pub mod LabelPlaces
