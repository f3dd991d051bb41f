pub mod BlockLaws
pub mod TraceLaws
pub mod StreamLaws
