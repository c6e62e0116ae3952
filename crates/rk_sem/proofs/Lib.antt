pub mod SemaphoreLemmas
