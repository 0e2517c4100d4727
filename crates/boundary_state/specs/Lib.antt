-- What the contracts of this crate cite.
pub mod Older
pub mod Upgrade
