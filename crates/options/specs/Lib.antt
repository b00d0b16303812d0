pub mod Counted
pub mod Quarters
pub mod Histories
