-- The replay listing's lines as lists of bytes, and what the code's struct holds of one.
pub mod Listing
pub mod Held
