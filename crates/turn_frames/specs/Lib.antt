-- What rows of requests are as packets, and how long they are.
pub mod Frames
