pub mod Planning
pub mod Good
pub mod Writing
pub mod Sending
pub mod Gathering
