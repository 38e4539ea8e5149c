-- The ids that a caller lends, as the code reads them.
pub mod Ids
