pub mod Turns
pub mod Entries
pub mod Picked
