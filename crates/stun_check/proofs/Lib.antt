-- The laws of the check.
pub mod Walk
pub mod Bytes
pub mod Parts
