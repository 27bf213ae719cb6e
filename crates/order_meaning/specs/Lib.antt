pub mod Names
pub mod Reasons
pub mod Request
pub mod Report
pub mod Book
pub mod Meant
