pub mod Laws
pub mod Small
pub mod Agree
