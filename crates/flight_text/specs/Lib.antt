pub mod Answer
pub mod Big
pub mod Hex
pub mod Mark
pub mod Ordered
pub mod Reference
pub mod Whole
