pub mod Header
pub mod Maturity
pub mod Meaning
