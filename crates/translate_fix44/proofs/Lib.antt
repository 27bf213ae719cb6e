pub mod Fair
pub mod Go
pub mod Known
pub mod Put
pub mod Sense
pub mod Sound
pub mod Tables
mod Worked
