pub mod ChainLemmas
mod Worked
