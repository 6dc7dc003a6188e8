pub mod Digits
pub mod Numbers
pub mod Stores
mod Turns
