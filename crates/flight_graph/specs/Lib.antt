pub mod Canon
pub mod Joined
pub mod Look
pub mod Ordered
pub mod Text
pub mod Walk
pub mod Writing
