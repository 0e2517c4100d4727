-- What other crates' proofs, and readers, cite of this one.
pub mod CutReturns
pub mod Tables
pub mod SamePlaces
pub mod TableLimits
pub mod Completes
pub mod Cuts
pub mod RowsReturns
pub mod Exact
pub mod Earned
mod EarnedExamples
