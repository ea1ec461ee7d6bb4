pub mod ReplyLaws
pub mod Claims
