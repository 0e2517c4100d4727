mod Members
mod Ready
pub mod Law
pub mod EitherOrder
pub mod EitherCall
pub mod Refuted
