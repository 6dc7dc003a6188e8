pub mod Same
pub mod Canonical
