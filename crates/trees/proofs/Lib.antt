pub mod Apart
pub mod TreeLaws
pub mod MeetLaws
pub mod FitLaws
