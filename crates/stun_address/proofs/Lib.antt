-- The laws of XOR addresses: what others cite is in Values and Exact.
pub mod Network
pub mod Elements
pub mod Reading
pub mod Cancel
pub mod Values
pub mod Exact
