pub mod Nearest
pub mod Prepared
