pub mod Whole
pub mod Standing
pub mod Deciding
mod RowReturns
mod SendReturns
pub mod PartReturns
mod MarkReturns
mod InsideReturns
pub mod MemoryReturns
pub mod EvaluationReturns
pub mod Owns
pub mod PlanStands
pub mod Accepted
pub mod Chosen
