pub mod Ascii
pub mod Print
