pub mod Good
pub mod Promises
pub mod Replies
pub mod Known
pub mod Counted
pub mod Starred
