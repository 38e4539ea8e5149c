-- The laws of a request's packet: what others cite is in Laws, Rooms, Frames and Bounds.
pub mod Laws
pub mod Places
pub mod Rooms
pub mod Whole
pub mod Frames
pub mod Bounds
