pub mod Demands
pub mod Laws
pub mod Steps
