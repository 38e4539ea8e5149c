-- The laws of MD5: its operations, its words, and the test suite of the RFC.
pub mod Ends
pub mod Turns
pub mod Words
pub mod Vectors
