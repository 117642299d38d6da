pub mod Sites
pub mod Past
pub mod Hold
pub mod AllFresh
pub mod Growing
