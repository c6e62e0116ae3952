pub mod SlabKeys
pub mod Stores
