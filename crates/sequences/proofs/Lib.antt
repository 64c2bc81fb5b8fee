pub mod KidLaws
pub mod RunLaws
pub mod SequenceLaws
pub mod FlatLaws
pub mod TextLaws
