pub mod OnePass
pub mod FirstFaults
pub mod Given
pub mod ByTags
pub mod GoodFront
pub mod Marked
