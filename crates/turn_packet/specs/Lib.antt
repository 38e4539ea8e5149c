-- What a request's packet is, and how long it is.
pub mod Source
