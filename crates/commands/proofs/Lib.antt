pub mod Laws
pub mod Walk
pub mod Places
pub mod Noting
pub mod Writing
pub mod RoundTrip
pub mod Counted
