pub mod Sendings
mod Repeating
mod Placing
