pub mod TypeLaws
pub mod StackLaws
