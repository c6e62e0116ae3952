pub mod Scenes
