pub mod Words
pub mod Lines
pub mod Decimals
pub mod Hexadecimals
