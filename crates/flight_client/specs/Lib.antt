pub mod Rows
pub mod Faults
pub mod Held
pub mod Adding
pub mod Meant
pub mod OneReading
pub mod AnyPrefix
