pub mod Places
pub mod Kept
