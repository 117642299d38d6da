pub mod Layout
pub mod Good
pub mod Step
