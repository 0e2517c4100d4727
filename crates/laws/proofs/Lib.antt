pub mod Roomy
pub mod Offering
pub mod Doing
pub mod Limited
pub mod Numbers
pub mod Staying
pub mod Keeping
pub mod Promised
pub mod Variables
pub mod Knowing
pub mod Replies
pub mod Counting
mod Seventeen
mod Spoilt
mod Answered
