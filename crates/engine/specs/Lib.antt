pub mod Next
pub mod Calls
