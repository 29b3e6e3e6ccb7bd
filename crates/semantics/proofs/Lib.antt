pub mod Refutations
pub mod Carrying
pub mod Present
pub mod Guards
pub mod Regions
pub mod Standing
