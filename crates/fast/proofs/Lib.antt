pub mod Judging
pub mod Bytes
