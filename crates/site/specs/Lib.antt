pub mod Years
pub mod Plants
pub mod Registers
pub mod Drafts
