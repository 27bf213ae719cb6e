pub mod Capture
pub mod Reading
pub mod Line
pub mod Header
pub mod Life
pub mod Kept
