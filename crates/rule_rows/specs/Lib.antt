pub mod ByRules
pub mod CodeRules
pub mod Rows
pub mod Rules
pub mod Texts
