pub mod Worked
pub mod Fronts
pub mod Names
pub mod Ones
pub mod Same
