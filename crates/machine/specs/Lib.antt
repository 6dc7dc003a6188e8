pub mod Plain
pub mod Finished
pub mod Runs
