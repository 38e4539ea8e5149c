-- The laws of rows of packets: what others cite is in Laws.
pub mod Laws
pub mod Steps
