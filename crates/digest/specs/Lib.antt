-- What the digests share, over a digest's parameters: words of 32 bits, bytes and numbers, padding and blocks, a message
-- in parts, HMAC. RFC 3174, RFC 1321 and RFC 2104 are what to lay beside these files.
pub mod Word
pub mod Bytes
pub mod Digest
pub mod Running
pub mod Hmac
pub mod View
