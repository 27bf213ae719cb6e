pub mod Field
pub mod HeadValues
pub mod Data
pub mod Fields
pub mod Group
pub mod Laws
pub mod Index
