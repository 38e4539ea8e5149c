-- What the source does (Source) and what the RFC says (Rfc), apart; proofs/ joins them.
pub mod Source
pub mod Rfc
