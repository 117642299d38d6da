pub mod Laws
pub mod Lent
pub mod Exchange
pub mod Machine
