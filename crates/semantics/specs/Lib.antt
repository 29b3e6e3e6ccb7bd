pub mod Frames
pub mod Members
pub mod RationalTime
pub mod Places
pub mod Agreement
