pub mod Reading
pub mod Reader
pub mod Verdict
pub mod Outcome
