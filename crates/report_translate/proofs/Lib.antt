pub mod OfType
pub mod GoodFields
pub mod Appended
pub mod DownAgain
pub mod Translated
pub mod Refused
mod KeptSense
