pub mod Cases
pub mod Replies
