pub mod Counts
pub mod Sources
pub mod Decided
pub mod Members
pub mod Within
