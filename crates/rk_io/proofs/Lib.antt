pub mod ToldLemmas
pub mod InputLemmas
