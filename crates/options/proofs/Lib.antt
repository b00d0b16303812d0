pub mod Allowed
pub mod Led
pub mod Marked
