pub mod Store
pub mod Plans
pub mod Read
pub mod Check
pub mod Facts
