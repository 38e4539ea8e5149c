-- The laws of the frames: what others cite is in ClassBits, Messages and Streams.
pub mod Reading
pub mod Writing
pub mod ClassBits
pub mod Messages
pub mod Streams
