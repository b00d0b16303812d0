pub mod Runs
pub mod Brought
pub mod Balances
