pub mod Carrying
pub mod Walking
pub mod OneReading
pub mod Reading
pub mod Loaded
pub mod Standing
pub mod Adding
pub mod Fronts
