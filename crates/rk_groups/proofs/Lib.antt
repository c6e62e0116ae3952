pub mod ListedLemmas
pub mod FoundLemmas
pub mod FoundGroupLemmas
pub mod GroupStoreLemmas
pub mod GroupLemmas
pub mod PartitionGroupLemmas
pub mod PeriodGroupLemmas
pub mod SemaphoreGroupLemmas
