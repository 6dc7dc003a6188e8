pub mod Bounds
pub mod BytesPassed
pub mod Class
pub mod First
pub mod Tails
