mod ReadBack
mod Worked
