pub mod JournalLines
