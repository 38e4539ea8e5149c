-- How requests that are asked for come into their table (Taking), and what a draft comes to (Concluding).
pub mod Taking
pub mod Concluding
