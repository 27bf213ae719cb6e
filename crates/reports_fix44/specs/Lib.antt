pub mod Message
pub mod Readable
pub mod Reading
pub mod Said
