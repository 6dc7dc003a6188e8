pub mod Decimal
pub mod Hexed
pub mod Stored
pub mod Written
