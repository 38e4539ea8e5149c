-- The replay tape of document 01 (Tape), what `next` answers with a part of it in hand (Window), and what a reader gets by
-- these answers (Reader).
pub mod Tape
pub mod Window
pub mod Reader
