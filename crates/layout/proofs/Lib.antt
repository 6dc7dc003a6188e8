pub mod Fronts
pub mod GroupLengths
pub mod Numbers
pub mod Places
pub mod Rows
pub mod Turns
