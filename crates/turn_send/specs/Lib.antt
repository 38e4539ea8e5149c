-- What a send comes to, from the tables alone, and the run of the definition that it stands for.
pub mod Sending
