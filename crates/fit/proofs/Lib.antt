pub mod Filled
pub mod OwnKinds
pub mod FitReturns
pub mod SearchReturns
mod Searched
pub mod Finds
pub mod FirstFits
pub mod Lines
pub mod Crossed
pub mod Fewest
pub mod Sets
