pub mod Walking
pub mod Paths
pub mod OneMeaning
pub mod MoreRows
pub mod MoreMeaning
pub mod PairsStay
mod Worked
pub mod Settled
pub mod Undefined
