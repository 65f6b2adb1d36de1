pub mod Firsts
pub mod Lookups
pub mod Scopes
pub mod Terms
pub mod Keeping
pub mod Importing
