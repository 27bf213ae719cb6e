pub mod Laws
pub mod Message
pub mod Readable
pub mod Reading
pub mod Reports
pub mod Said
pub mod Sense
pub mod Step
