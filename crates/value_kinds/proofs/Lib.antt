pub mod Spelled
mod Unsigned
