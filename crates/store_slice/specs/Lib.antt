pub mod Slice
pub mod Records
pub mod Numbers
pub mod Writer
