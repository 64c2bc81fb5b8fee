pub mod BelowLaws
pub mod SeenTypes
pub mod StandingTypes
pub mod IndexedKinds
