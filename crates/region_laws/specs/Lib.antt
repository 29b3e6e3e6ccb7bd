pub mod Agreement
pub mod Passing
pub mod Chains
pub mod Limits
pub mod Equivalence
pub mod Examples
