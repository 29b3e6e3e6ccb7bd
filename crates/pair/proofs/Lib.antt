mod Adding
mod Telling
mod Joining
