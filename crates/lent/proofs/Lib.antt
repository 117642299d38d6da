pub mod Judged
pub mod Blank
pub mod RoundTrip
pub mod Ranges
