pub mod Distance
pub mod Measured
