pub mod Appends
pub mod Bits
