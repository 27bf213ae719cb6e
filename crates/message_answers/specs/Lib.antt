pub mod Message
pub mod Chains
pub mod Known
pub mod Translated
pub mod Answer
pub mod Seen
pub mod Laws
