pub mod ReaderParts
pub mod Scripts
