pub mod Causes
pub mod Bytes
pub mod Disk
pub mod Memory
pub mod MemDisk
