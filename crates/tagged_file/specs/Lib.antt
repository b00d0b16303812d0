pub mod Decoded
pub mod Follows
pub mod Format
pub mod Limits
pub mod Numbers
pub mod Spelling
