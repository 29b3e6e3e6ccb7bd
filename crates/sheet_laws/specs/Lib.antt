pub mod Refusals
pub mod Acceptance
