pub mod Moments
pub mod Played
pub mod Noting
pub mod Silence
pub mod Worked
pub mod Kept
pub mod Playing
