pub mod Bytes
pub mod Logs
pub mod Judging
pub mod Counts
pub mod Prefix
