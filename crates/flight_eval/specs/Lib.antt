pub mod Address
pub mod Attempted
pub mod Gives
pub mod Names
pub mod Object
pub mod Productions
pub mod Seen
