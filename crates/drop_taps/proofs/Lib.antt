pub mod Retained
pub mod Worked
pub mod Showing
