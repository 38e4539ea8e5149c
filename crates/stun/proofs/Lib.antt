-- What the codec's parts say together.
pub mod Trip
pub mod Signed
pub mod Check
pub mod Reading
pub mod Lookups
pub mod Exact
pub mod Frames
pub mod Lent
pub mod Cases
pub mod Published
