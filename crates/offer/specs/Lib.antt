pub mod Acts
pub mod Seeing
pub mod Having
