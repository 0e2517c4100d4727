mod Places
pub mod ShowReads
