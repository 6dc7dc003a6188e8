pub mod Made
pub mod Replay
pub mod Refused
pub mod Steps
pub mod Asked
