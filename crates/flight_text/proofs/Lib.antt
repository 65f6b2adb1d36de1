pub mod Digits
pub mod Lines
pub mod Paths
pub mod Written
pub mod Ordered
