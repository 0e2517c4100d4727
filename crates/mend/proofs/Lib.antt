-- What other crates' proofs cite of this one.
pub mod PaddedReads
pub mod PaddedLaws
pub mod RunReturns
pub mod RunLaws
pub mod Alike
pub mod Numbers
pub mod Kept
pub mod MendReturns
pub mod Request11
mod Examples
