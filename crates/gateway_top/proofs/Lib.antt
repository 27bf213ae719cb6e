pub mod Answered
pub mod Catching
pub mod Midway
pub mod Numbers
pub mod ByNumbers
mod Worked
