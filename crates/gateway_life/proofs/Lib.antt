mod Standing
mod Today
mod Deciding
mod Acting
mod Passing
mod Cutting
mod Turning
mod Failing
mod Polling
mod Rounding
mod Rounded
mod Accounting
pub mod Living
mod Joining
mod Beginning
mod GivenOut
mod Leaving
mod Shown
pub mod Watching
mod NewDay
mod Turnover
mod TapsShown
mod Caused
mod CausedWhole
pub mod Telling
mod Dealing
