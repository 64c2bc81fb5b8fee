pub mod Apart
pub mod Lengths
pub mod PlaceLaws
pub mod Widened
