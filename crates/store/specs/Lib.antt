pub mod Bytes
pub mod Packed
pub mod Putting
