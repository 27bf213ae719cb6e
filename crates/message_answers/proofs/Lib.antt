mod Worked
mod Joined
mod Refusals
mod Bounded
mod Back
mod Fits
pub mod Letters
pub mod Typed
mod Answered
mod Joins
mod Requested
mod Reported
pub mod Forwards
pub mod Carried
pub mod AnswerCases
mod Application
mod FaultWords
pub mod SaidTexts
pub mod ReadShapes
pub mod KnownNumbers
pub mod SentFields
mod GivenOut
