pub mod LeastNameLemmas
pub mod FreeIndexLemmas
pub mod FoundNameLemmas
