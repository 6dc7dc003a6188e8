pub mod First
pub mod Leaving
