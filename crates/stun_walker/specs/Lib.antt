-- The attribute walker: what stands at a place of a message, and the steps from a place on.
pub mod Source
