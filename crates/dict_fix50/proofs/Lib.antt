pub mod Given
pub mod Means
pub mod Times
mod Worked
