pub mod NumBits
pub mod Words
pub mod Packed
pub mod Fields
