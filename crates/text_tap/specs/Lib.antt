pub mod OrderLines
pub mod Shown
pub mod TextLines
