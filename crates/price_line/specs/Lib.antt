pub mod Digits
pub mod Prices
pub mod RunLengths
pub mod Messages
