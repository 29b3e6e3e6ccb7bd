pub mod Records
pub mod Meanings
