pub mod Parts
pub mod Faults
pub mod Stream
pub mod Fed
pub mod Begun
