pub mod Facts
pub mod Lines
pub mod Sheet
pub mod Examine
pub mod Search
pub mod Turns
pub mod Frontiers
