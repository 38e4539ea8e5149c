-- The integrity check and the long-term key: what the source does, and what RFC 8489 says.
pub mod Source
