pub mod Laws
pub mod Gathering
