pub mod SupplyContracts
pub mod Ledgers
pub mod Calls
pub mod Statements
