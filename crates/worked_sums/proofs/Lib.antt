pub mod Computed
pub mod Settled
