pub mod Chains
pub mod Id
