mod Parts
mod Pieces
mod Search
mod Worked
