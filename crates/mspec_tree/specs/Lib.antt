pub mod Depth
pub mod Form
