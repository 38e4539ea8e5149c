-- Histories of the code's own calls (History), the Rust's own sequence (Rust), what is alike (Alike), and the three demands over them.
pub mod History
pub mod Rust
pub mod Alike
pub mod Demand1
pub mod Demand2
pub mod Machine
pub mod Demand3
