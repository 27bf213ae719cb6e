pub mod Faults
pub mod Gives
pub mod Indexed
pub mod OnePass
