pub mod Once
pub mod Said
pub mod Readable
pub mod Reading
