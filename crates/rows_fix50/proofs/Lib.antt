pub mod Dates
pub mod Roles
pub mod Times
