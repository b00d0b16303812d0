pub mod Asked
pub mod Balanced
pub mod Dividing
pub mod Giving
pub mod Held
pub mod Powered
pub mod Reached
