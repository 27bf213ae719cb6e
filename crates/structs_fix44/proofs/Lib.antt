mod Down
mod Typed
