pub mod Batches
pub mod Single
