pub mod ValueKind
pub mod CodeKinds
