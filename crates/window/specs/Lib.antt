pub mod Limits
pub mod Held
pub mod Standing
pub mod Lying
