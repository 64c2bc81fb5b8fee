pub mod LabelLaws
pub mod SetLaws
pub mod ResultLaws
pub mod ContentLaws
pub mod TextLaws
