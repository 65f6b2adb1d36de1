pub mod Code
pub mod Values
pub mod Declarations
pub mod Reports
