-- What a poll comes to, from the state alone (Plan), what the code's draft of it means (Draft), and the run of the definition that a
-- plan stands for (Follows).
pub mod Plan
pub mod Draft
pub mod Follows
