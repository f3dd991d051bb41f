pub mod Fields
pub mod Numbers
pub mod Refusals
pub mod Replies
