pub mod Lengths
pub mod Plain
pub mod Short
mod Words
mod Worked
