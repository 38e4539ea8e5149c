-- The laws of lent ids: what others cite is in Lent.
pub mod Lent
pub mod Clashing
pub mod Verdicts
