pub mod PlaceLemmas
pub mod SlabKeyLemmas
pub mod StoreLemmas
