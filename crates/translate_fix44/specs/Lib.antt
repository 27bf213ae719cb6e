pub mod CodeRules
pub mod Laws
pub mod Put
pub mod Rules
pub mod Translation
