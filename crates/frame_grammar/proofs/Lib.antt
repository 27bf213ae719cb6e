pub mod Digits
pub mod Words
pub mod Written
pub mod Every
pub mod Grow
pub mod Join
pub mod Awaits
pub mod Begins
pub mod Breaks
pub mod Only
pub mod Scanned
pub mod Starts
pub mod Bounded
pub mod Sums
pub mod Stands
mod Worked
pub mod Meets
pub mod Causes
