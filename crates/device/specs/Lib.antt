pub mod Terms
pub mod Meaning
