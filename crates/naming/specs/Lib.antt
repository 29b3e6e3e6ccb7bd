pub mod Claims
pub mod Named
pub mod Reachable
pub mod Decisions
