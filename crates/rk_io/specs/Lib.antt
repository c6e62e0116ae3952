pub mod Causes
pub mod Bytes
pub mod WholeInput
pub mod Memory
pub mod Standard
