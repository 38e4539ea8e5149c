-- Sessions under two passwords, computed (Pairs).
pub mod Pairs
