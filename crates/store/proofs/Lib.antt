pub mod Numbers
pub mod Puts
pub mod Parts
pub mod Fills
pub mod Records
pub mod Back
pub mod Foreign
