pub mod Allowing
pub mod Keeping
pub mod Lengths
pub mod Outcomes
pub mod Reading
pub mod Stepping
pub mod Turning
