pub mod Format1
pub mod Migrating
pub mod Walk
pub mod Laws
