pub mod DigitsLemmas
pub mod DateLemmas
pub mod SpellingLemmas
pub mod NumberLaws
pub mod DayLaws
pub mod StampLaws
pub mod DecLaws
pub mod LawLemmas
mod Worked
pub mod StampLemmas
pub mod DecLemmas
pub mod Sixteen
