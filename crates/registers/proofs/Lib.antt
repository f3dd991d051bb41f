pub mod Fields
pub mod RefusalLaws
