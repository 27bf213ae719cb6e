pub mod Canonical
pub mod CodeRules
pub mod Good
pub mod Lack
pub mod Put
pub mod Rules
pub mod Up
