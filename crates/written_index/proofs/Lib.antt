pub mod IndexRead
pub mod Joined
pub mod ListingRead
