pub mod BarrierSlots
pub mod Barriers
