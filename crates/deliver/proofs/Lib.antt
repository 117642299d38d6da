pub mod Order
pub mod Ledger
