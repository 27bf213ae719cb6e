pub mod Worked
pub mod Giving
pub mod Dating
pub mod Marking
pub mod Noting
pub mod Finding
pub mod Adding
