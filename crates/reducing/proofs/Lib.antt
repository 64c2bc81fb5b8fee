pub mod NumberLaws
pub mod ListingLaws
pub mod MeetingLaws
pub mod LeavingLaws
