pub mod Opened
pub mod Text
pub mod Pieces
