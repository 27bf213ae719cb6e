pub mod Content
pub mod Head
pub mod Laws
pub mod Logon
pub mod Reasons
