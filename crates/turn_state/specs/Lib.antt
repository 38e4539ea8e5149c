-- turn.rs as a definition (Maps, State, Source), the number that a call answers (Number), sequences of calls (Sequence), and what the
-- code's structs mean in it (View).
pub mod Maps
pub mod State
pub mod Source
pub mod Number
pub mod Sequence
pub mod View
