mod Coming
mod Written
pub mod Stopping
