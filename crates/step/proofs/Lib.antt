pub mod Changed
mod Taken
mod StepReturns
pub mod Sets
