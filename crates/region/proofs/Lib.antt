pub mod Belows
pub mod Rising
mod Mapping
mod Ranges
mod Bounds
pub mod Admitting
