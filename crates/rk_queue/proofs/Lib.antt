pub mod QueueLemmas
pub mod ServiceLemmas
