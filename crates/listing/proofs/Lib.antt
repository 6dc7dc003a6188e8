pub mod ListedOpened
pub mod ListedOnce
pub mod Outside
pub mod Rows
pub mod Turns
pub mod Cased
