pub mod Header
pub mod Meaning
