pub mod Ready
pub mod Step
pub mod SchedulingLaws
pub mod Manned
pub mod Made
pub mod Cut
