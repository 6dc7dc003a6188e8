pub mod Same
pub mod Last
