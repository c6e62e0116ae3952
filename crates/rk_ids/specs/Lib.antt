pub mod LiveObjects
