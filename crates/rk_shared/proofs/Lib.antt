pub mod SeatEntryLemmas
pub mod ProcessorSeatLemmas
pub mod SeatStepLemmas
pub mod PartMarkLemmas
pub mod OpeningSeatLemmas
pub mod DoneLemmas
