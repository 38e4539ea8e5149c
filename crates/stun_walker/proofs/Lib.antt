-- The laws of the walker.
pub mod Turns
