pub mod State
pub mod Planning
