pub mod Expressions
pub mod Faults
pub mod Meanings
pub mod Parts
pub mod Senses
pub mod Trees
