mod Bounds
pub mod Shown
