-- The laws of what the digests share.
pub mod Parts
pub mod Fill
pub mod Ending
pub mod Update
pub mod Bits
pub mod Word
pub mod Output
pub mod Hmac
