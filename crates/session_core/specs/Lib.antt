pub mod Head
pub mod Laws
pub mod Numbers
pub mod Reason
pub mod Said
pub mod Table
