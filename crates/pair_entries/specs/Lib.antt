pub mod Birth
pub mod Payload
pub mod Parts
pub mod Prepared
