pub mod Chunks
pub mod Checks
pub mod Passed
pub mod Fitting
pub mod Records
pub mod Layers
