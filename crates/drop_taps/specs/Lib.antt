pub mod Tap
pub mod Kept
pub mod Totals
pub mod Shown
