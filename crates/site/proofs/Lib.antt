pub mod Receiving
pub mod Turning
pub mod Reading
