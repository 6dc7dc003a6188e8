pub mod Same
pub mod Blocks
pub mod Bits
pub mod Group
pub mod Turn
mod Equal
mod Groups
mod Own
