pub mod Letters
pub mod Own
pub mod Searched
pub mod StableOrder
pub mod Starts
pub mod Steps
pub mod Stopped
pub mod Charges
