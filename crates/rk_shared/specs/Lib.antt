pub mod KeyedLogs
pub mod SeatViews
pub mod SeatSteps
pub mod Keeps
pub mod Openings
