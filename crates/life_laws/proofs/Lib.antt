mod Worked
pub mod Grown
mod InOrder
mod FirstHalf
mod Line
mod Repeats
mod Decided
mod Keep
mod World
mod Turns
mod Polls
mod OneTurn
mod LastRead
mod Lives
pub mod ByDay
pub mod OverDays
mod Begun
mod Failed
mod Filled
mod Answered
pub mod Received
