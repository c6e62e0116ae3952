pub mod RegisterPassLemmas
pub mod AssignedLineLemmas
