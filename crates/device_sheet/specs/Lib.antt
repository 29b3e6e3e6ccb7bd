pub mod Edges
pub mod Sheets
pub mod Fits
pub mod Tables
