pub mod Names
pub mod Seen
pub mod Kept
pub mod Reports
pub mod Posts
