pub mod Orders
pub mod Days
pub mod Sound
pub mod Worked
