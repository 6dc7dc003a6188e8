mod Plans
mod Flush
