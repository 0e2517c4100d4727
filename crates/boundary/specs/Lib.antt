pub mod Packed
pub mod Engine
pub mod Outcomes
