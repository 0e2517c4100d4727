-- What the contracts of this crate cite.
pub mod Padded
pub mod Fits
pub mod Outcome
