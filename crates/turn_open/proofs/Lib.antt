-- The laws of the opening and of the lost transport.
pub mod Zeros
pub mod Blank
pub mod Lose
