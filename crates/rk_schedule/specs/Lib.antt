pub mod Stored
pub mod Reading
pub mod ReadingAnswers
pub mod ScheduleLaws
