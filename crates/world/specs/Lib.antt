pub mod World
pub mod Started
pub mod Parts
