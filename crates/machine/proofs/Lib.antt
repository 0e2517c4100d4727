pub mod Called
pub mod Copied
pub mod Moved
mod Partners
mod Ruled
pub mod Whole
pub mod Tests
