pub mod Laws
pub mod Beyond
pub mod Rest
pub mod Order
