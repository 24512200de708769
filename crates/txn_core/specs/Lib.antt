pub mod FirstPlaces
pub mod KeptRows
pub mod PlainRows
pub mod RowEnds
pub mod RowLaws
pub mod RowSteps
pub mod RowTables
