-- What the codec's parts are shown to mean together: what RFC 8489 and 8656 say (Rfc, Signed), and what the source reads (Reading).
pub mod Rfc
pub mod Signed
pub mod Reading
