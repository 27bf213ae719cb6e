pub mod Rounds
pub mod Stops
pub mod Replay
pub mod Lived
pub mod Drills
pub mod Input
pub mod LifeClock
pub mod LifeWire
