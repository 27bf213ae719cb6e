pub mod Header
pub mod Errors
pub mod Writing
pub mod Bodies
pub mod Going
