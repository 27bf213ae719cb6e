pub mod CodeRules
pub mod Down
pub mod Judged
pub mod Rules
