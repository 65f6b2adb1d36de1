pub mod Hexadecimal
pub mod Spelled
pub mod Tags
