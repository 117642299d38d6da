pub mod Steps
pub mod Tallies
pub mod Agreement
