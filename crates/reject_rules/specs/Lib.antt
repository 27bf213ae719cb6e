pub mod Content
pub mod Laws
pub mod Reasons
pub mod Refusals
pub mod Renumbered
