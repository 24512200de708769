pub mod Frames
pub mod Framings
pub mod RawCarries
pub mod RawFrames
pub mod RawReplies
pub mod WireMeaning
