pub mod Came
pub mod Stop
pub mod Work
pub mod Written
