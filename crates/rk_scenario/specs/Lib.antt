pub mod TextLaws
pub mod Loads
pub mod Drafts
pub mod ReadingAnswers
pub mod Reasons
