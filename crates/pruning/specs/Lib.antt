pub mod Interval
pub mod Answers
