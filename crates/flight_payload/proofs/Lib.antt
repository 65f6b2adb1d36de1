mod Joined
pub mod Data
pub mod Again
pub mod Lines
pub mod Whole
pub mod Standing
pub mod Lists
pub mod Counted
mod Actions
