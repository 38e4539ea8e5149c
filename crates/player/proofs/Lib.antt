-- Where a field lies in the window of a tape.
pub mod Place
