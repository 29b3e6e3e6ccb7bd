mod Cut
pub mod Guards
