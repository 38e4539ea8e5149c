-- The laws of the listing's numbers and lines, what a line holds as parts are added to it (Texts), and how long a line is at most (Fits).
pub mod Numbers
pub mod Texts
pub mod Laws
pub mod Published
pub mod Fits
