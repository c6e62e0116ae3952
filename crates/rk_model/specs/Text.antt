pub mod Words
pub mod Forms
pub mod Scenarios
pub mod Schedules
pub mod ScheduleForms
pub mod ScheduleFaults
pub mod Reading
