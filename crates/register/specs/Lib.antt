pub mod Register
pub mod Exchange
pub mod Lent
pub mod Machine
