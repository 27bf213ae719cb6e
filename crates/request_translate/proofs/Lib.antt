pub mod AgainFields
pub mod AsStructs
mod GoodFields
mod OneContent
mod PlainOrders
mod Sayable
pub mod SenseAgain
mod Sound50
mod Translated
mod Worked
pub mod Writable
