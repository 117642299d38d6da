pub mod Judging
pub mod Arriving
pub mod Entering
