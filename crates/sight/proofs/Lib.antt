pub mod Sighting
mod Rowed
mod Closes
mod Remembered
pub mod RowSeen
pub mod Sets
