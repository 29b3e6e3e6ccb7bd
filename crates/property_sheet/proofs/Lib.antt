pub mod Fitting
pub mod Contents
