pub mod Parts
pub mod Theorems
pub mod Opened
pub mod Versions
