-- Reading a message: what the source does (Source), what RFC 8489 says (Rfc), and what the code's one pass keeps (Scan).
pub mod Source
pub mod Scan
pub mod Rfc
