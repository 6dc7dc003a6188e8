pub mod Bits
pub mod Packer
pub mod Fields
