pub mod Split
pub mod OneMore
mod Worked
