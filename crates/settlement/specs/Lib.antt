pub mod Progress
pub mod Files
pub mod Spelled
pub mod Longest
pub mod Settling
pub mod Inputs
