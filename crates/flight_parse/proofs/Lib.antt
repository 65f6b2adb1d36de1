pub mod Dates
pub mod Turns
pub mod Names
pub mod Chains
pub mod Numbers
pub mod Spelled
