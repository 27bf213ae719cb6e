pub mod JournalLines
pub mod Shown
pub mod Worked
