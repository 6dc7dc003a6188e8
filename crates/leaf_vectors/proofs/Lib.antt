pub mod Parts
pub mod Turns
pub mod Widths
pub mod Runs
pub mod Groups
