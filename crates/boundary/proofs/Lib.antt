pub mod Calling
pub mod Fixing
