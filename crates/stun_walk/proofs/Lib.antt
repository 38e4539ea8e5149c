-- The laws of the walk.
pub mod Walk
pub mod First
pub mod Values
pub mod Reading
pub mod Message
