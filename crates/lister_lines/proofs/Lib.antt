pub mod DecimalLaws
pub mod ContentTextLaws
pub mod RoomLaws
pub mod PrintSteps
pub mod LineLaws
pub mod ListingLaws
