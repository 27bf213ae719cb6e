mod Worked
pub mod Bodies
mod Picked
mod Acts
mod Steps
mod Goes
pub mod Continues
mod Makes
