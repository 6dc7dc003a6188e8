pub mod Parts
pub mod Opening
pub mod Answers
pub mod Lookups
pub mod Words
