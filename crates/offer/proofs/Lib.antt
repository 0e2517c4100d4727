pub mod OrderSeen
pub mod Starting
mod Amounted
pub mod Answered
pub mod Having
pub mod Sets
