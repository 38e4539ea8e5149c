-- Laws on lists that several crates cite.
pub mod Elements
