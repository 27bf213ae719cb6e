pub mod Kept
pub mod OneMore
pub mod Pieces
pub mod Printed
pub mod Worked
