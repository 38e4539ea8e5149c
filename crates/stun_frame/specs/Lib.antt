-- What the source does (Source) and what the RFCs say (Rfc), apart; proofs/ joins them.
pub mod Source
pub mod Rfc
