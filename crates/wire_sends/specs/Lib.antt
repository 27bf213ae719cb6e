pub mod Sent
pub mod Again
