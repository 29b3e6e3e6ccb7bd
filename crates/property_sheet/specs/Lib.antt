pub mod Kinds
pub mod Contents
pub mod Records
pub mod Sheets
pub mod Fits
