pub mod Laws
pub mod Front
pub mod Walk
pub mod RoundTrip
