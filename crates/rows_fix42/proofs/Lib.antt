pub mod ContraTimes
mod Worked
