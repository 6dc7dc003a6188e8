pub mod Entries
pub mod Lanes
