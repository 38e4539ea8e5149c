-- What a row has to wait for.
pub mod Times
