pub mod SeatLemmas
pub mod ScanLemmas
