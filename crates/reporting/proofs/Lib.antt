pub mod ReplayLaws
pub mod EndingLaws
pub mod ReportLaws
pub mod StreamLaws
