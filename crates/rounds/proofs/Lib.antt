pub mod Waiting
pub mod Sites
pub mod Answers
pub mod Entering
pub mod Keeping
