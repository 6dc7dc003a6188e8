pub mod Marks
pub mod Listing
