pub mod Faults
pub mod Plain
pub mod Reads
pub mod Shape
pub mod Stream
