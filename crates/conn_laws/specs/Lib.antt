pub mod BrokenJournals
pub mod CallsByPlaces
pub mod Drawing
pub mod HistoryTable
pub mod KeptRequests
pub mod OwnEnds
pub mod RowsKept
