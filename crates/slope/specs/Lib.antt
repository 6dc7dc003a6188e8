pub mod Slope
pub mod Column
pub mod Extremes
pub mod Values
pub mod ExtremesOf
