pub mod Content
pub mod Message
pub mod Readable
pub mod Reading
pub mod Requests
pub mod Said
pub mod Sense
