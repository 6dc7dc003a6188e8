pub mod Opened
pub mod Terms
pub mod TextPieces
