-- The parts of a send: addresses as rows (Ranges), its run (Runs), its number and its answer (Deciding), and the answers that need no
-- request (Answers).
pub mod Ranges
pub mod Runs
pub mod Deciding
pub mod Answers
