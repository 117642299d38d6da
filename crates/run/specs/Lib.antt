pub mod Ran
pub mod Left
pub mod Prepared
