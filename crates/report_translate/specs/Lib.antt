pub mod Reading
pub mod Translation
pub mod Refusals
pub mod Writing
pub mod Laws
