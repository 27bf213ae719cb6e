pub mod Down
