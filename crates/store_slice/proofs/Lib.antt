pub mod Answer
pub mod Kept
pub mod Rounds
pub mod Scan
pub mod Taken
