pub mod Linked
pub mod Resolve
pub mod Meaning
pub mod Good
pub mod Lasting
