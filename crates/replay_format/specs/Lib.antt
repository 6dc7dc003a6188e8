pub mod Format
pub mod Tags
pub mod Read
