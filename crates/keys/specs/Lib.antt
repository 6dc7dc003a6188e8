pub mod Order
pub mod Shorten
