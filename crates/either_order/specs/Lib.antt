pub mod Independent
pub mod Examples
