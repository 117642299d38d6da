pub mod Outcomes
pub mod Judging
