mod Cut
mod Filled
