pub mod Columns
mod Cut
mod Derivations
mod Points
mod Step
pub mod Widths
