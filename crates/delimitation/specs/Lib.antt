pub mod Delimitation
pub mod Histories
pub mod Green
