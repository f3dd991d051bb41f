pub mod RecordLaws
pub mod StepLaws
pub mod TraceLaws
pub mod Blocks
pub mod StartLaws
