pub mod Wheels
