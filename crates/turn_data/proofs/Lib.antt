-- The laws of the data's packets: what others cite is in Laws.
pub mod Laws
pub mod Seals
