pub mod FieldLemmas
pub mod NumberLemmas
pub mod OneOutcome
pub mod OneStream
pub mod ShapeLaws
pub mod TotalLaws
