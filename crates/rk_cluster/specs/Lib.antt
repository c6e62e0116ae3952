pub mod Registers
pub mod Passes
pub mod Clusters
