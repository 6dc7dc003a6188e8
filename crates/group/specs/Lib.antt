pub mod Blocks
pub mod Legal
pub mod Rows
pub mod Meta
pub mod Write
pub mod Read
pub mod Facts
