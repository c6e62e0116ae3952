pub mod PeriodSlots
pub mod Periods
