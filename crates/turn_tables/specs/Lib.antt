-- What an operation on a table's rows gives (Rows), the tables around them (Tables), and what is listed at an entry (Lists).
pub mod Rows
pub mod Tables
pub mod Lists
