pub mod Windows
mod Asked
