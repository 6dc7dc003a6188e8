pub mod Following
pub mod Eights
