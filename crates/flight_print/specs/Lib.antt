pub mod Text
pub mod Pieces
pub mod Scope
pub mod Forms
