mod Kept
mod Marks
