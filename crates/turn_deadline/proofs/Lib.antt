-- The least of a list.
pub mod Scan
