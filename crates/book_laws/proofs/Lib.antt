mod WorkedHeard
mod Sides
pub mod Types
mod Ids
mod Numbers
mod Refusals
pub mod Contents
pub mod Answered
pub mod On
mod Requests
mod Reports
pub mod Texts
pub mod Session
mod Quiet
pub mod EntryFollows
mod Judged
mod Followed
mod Worked
mod WorkedProper
mod Lists
mod Places
mod Tests
mod Shapes
mod Agree
mod Outs
mod Tooks
mod Silence
mod Made
mod Sources
mod Chains
mod New
mod Does
mod Lawful
mod Peers
mod Whole
mod HeaderGroups
mod Headers
mod HeaderMessages
mod Bodies
mod Both
