pub mod Run
pub mod Sums
