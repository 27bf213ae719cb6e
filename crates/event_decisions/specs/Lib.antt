pub mod Body
pub mod Event
pub mod Decide
pub mod Days
pub mod Laws
