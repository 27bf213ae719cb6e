pub mod Fields
pub mod Lobby
pub mod PutOff
pub mod Said
pub mod Talk
pub mod Why
