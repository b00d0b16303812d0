pub mod Offers
pub mod Putting
pub mod Choosing
