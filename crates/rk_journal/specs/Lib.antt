pub mod Logs
pub mod JournalRule
pub mod Tokens
pub mod JournalViews
pub mod MarkRegisters
pub mod JournalAnswers
