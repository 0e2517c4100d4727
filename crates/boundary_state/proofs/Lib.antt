pub mod Renewing
pub mod Upgrading
pub mod Laws
pub mod Sets
