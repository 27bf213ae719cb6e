pub mod Records
pub mod Commit
pub mod Steps
pub mod State
pub mod Log
pub mod Scan
pub mod Kept
pub mod Chunk
