pub mod Causes
pub mod Questions
pub mod Text
