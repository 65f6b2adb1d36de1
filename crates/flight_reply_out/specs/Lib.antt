pub mod Sent
pub mod Origins
pub mod Noted
pub mod Known
pub mod Homes
pub mod Fields
pub mod Drawn
pub mod Text
