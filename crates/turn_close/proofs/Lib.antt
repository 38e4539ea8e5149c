-- The answers of a close, number by number (Closing).
pub mod Closing
