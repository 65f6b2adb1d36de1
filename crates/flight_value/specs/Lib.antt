pub mod Date
pub mod Graph
pub mod Store
pub mod Held
pub mod Listed
