pub mod Rightness
pub mod Sheets
