pub mod Given
pub mod Means
mod Worked
