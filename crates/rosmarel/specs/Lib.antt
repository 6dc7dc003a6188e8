pub mod Answers
pub mod Interface
