-- The laws of writing: what others cite is in Lengths, Parts, Meets and Answers.
pub mod Lengths
pub mod Places
pub mod Answers
pub mod Parts
pub mod Meets
pub mod Examples
