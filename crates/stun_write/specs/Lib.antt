-- What the source does (Source) and what RFC 8489 says (Rfc), apart; proofs/ joins them.
pub mod Source
pub mod Rfc
