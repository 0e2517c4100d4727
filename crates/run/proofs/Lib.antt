mod RunReturns
pub mod Told
