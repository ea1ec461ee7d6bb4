pub mod Numbers
pub mod Reply
pub mod Replies
pub mod Claims
