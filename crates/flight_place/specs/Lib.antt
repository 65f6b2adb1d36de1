pub mod Tokens
pub mod Places
pub mod Faults
pub mod Parts
pub mod Rows
pub mod Parsed
pub mod Placing
