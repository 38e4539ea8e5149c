-- MD5: the definition (RFC 1321) and what stands in the struct.
pub mod Rfc1321
pub mod View
