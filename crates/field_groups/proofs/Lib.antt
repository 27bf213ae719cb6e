pub mod Places
pub mod Marks
pub mod DataTags
pub mod Digits
pub mod Reading
pub mod Taking
pub mod Front
pub mod Determined
pub mod Whole
pub mod ByTag
pub mod Lines
pub mod Plain
pub mod Grouped
pub mod NumberDigits
mod Worked
pub mod Indexing
