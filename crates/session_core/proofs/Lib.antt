mod Always
mod ByRows
mod Kept
mod Links
mod Premise
mod Worked
