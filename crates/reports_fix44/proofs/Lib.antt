pub mod Few
pub mod Means
mod Worked
