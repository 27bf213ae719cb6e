pub mod Laws
pub mod Message
pub mod Reports
pub mod Requests
pub mod Sense
pub mod Step
