-- The laws of a retry: the texts that an answer gives and what is learnt from them (Texts), the row that is put back (Rows), and the
-- answers, number by number (Trying).
pub mod Texts
pub mod Rows
pub mod Trying
