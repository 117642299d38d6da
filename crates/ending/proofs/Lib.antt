pub mod Verdicts
pub mod Closing
pub mod Telling
pub mod Next
