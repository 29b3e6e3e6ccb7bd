pub mod Rising
pub mod Faults
pub mod First
pub mod Sheets
pub mod Accepted
