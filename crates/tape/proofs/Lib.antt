-- The laws of the tape: what others cite is in Listing, Sizes, Cutting and Stages; Examples has tapes that are read by computation.
pub mod Fields
pub mod Listing
pub mod Sizes
pub mod Cutting
pub mod Examples
pub mod Stages
