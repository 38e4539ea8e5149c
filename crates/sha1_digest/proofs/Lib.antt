-- The laws of the block, and RFC 3174's first example.
pub mod Abc
pub mod Ends
pub mod Turn
pub mod Words
