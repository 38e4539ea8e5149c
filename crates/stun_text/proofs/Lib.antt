-- The laws of UTF-8's parts and replacement.
pub mod Table
pub mod Cut
pub mod Ranges
pub mod Room
pub mod Laws
pub mod Examples
