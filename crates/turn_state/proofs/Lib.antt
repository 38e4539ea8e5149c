-- How an answer meets the definition's, refused or not (Answering), that rows mean what was put there (Rows), and that what a tidy
-- client means fixes it (Same); two rules of the definition (Times).
pub mod Answering
pub mod Rows
pub mod Same
pub mod Times
