pub mod Terms
pub mod Refusals
pub mod Texts
pub mod Devices
pub mod Lines
