pub mod Drill
pub mod Day
