pub mod Bits
pub mod SetBits
pub mod Table
pub mod Words
pub mod Live
