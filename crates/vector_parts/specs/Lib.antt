pub mod Draws
pub mod Told
