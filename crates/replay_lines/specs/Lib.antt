pub mod Pieces
pub mod ReplayLines
pub mod CallLog
pub mod Past
pub mod Prints
