pub mod Turns
pub mod Entries
pub mod Answers
pub mod Asking
pub mod Opening
pub mod Whole
pub mod Equal
