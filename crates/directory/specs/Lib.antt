pub mod Directory
pub mod Keys
pub mod Facts
pub mod Read
