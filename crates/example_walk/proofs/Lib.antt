pub mod Keep
pub mod Looks
pub mod Edges
pub mod Fronts
pub mod Steps
pub mod Begin
