pub mod SemaphoreCalls
pub mod SemaphoreSlots
