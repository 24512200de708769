pub mod Machine
pub mod Quotes
pub mod Rooms
pub mod Steps
