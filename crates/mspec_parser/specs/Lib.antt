pub mod Defs
pub mod Fields
pub mod Parsing
pub mod Readers
pub mod Small
pub mod Words
