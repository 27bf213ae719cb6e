pub mod Lack
pub mod Laws
pub mod Plain
pub mod Translation
pub mod Up
