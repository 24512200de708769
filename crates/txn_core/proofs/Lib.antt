pub mod FoundIds
pub mod KeptLemmas
pub mod KeptSteps
pub mod Ranges
