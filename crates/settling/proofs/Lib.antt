pub mod Parts
pub mod Formed
pub mod Waiting
pub mod Clashing
pub mod Knowing
pub mod Lower
pub mod Falling
pub mod Settling
pub mod Weighing
pub mod Settled
mod RankReturns
mod ConflictReturns
