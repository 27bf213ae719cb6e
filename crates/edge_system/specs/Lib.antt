pub mod JournalFile
pub mod Place
pub mod Stage
pub mod Tries
