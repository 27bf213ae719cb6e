pub mod Content
pub mod Readable
pub mod Reading
pub mod Said
