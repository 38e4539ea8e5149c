-- What a datagram tells of, and what the parts of `handle` answer (Handling).
pub mod Handling
