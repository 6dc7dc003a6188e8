pub mod Order
pub mod Shorten
pub mod Words
