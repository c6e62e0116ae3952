pub mod PartitionSlots
pub mod Partitions
