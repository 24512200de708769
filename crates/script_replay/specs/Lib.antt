pub mod Replays
pub mod ReplyTexts
pub mod Timed
