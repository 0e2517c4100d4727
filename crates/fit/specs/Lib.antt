pub mod Finding
pub mod Answering
pub mod Folds
pub mod Lines
pub mod Receiving
