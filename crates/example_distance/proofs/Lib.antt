pub mod Levels
pub mod Shortest
