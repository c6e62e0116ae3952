pub mod SoundPeriods
pub mod Sound
pub mod Does
pub mod Calls
pub mod Refusals
