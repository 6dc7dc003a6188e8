pub mod Intervals
pub mod Looks
pub mod Cased
