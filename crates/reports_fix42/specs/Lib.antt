pub mod Reports
pub mod Message
pub mod Sense
pub mod Step
pub mod Said
pub mod Readable
pub mod Reading
pub mod Laws
