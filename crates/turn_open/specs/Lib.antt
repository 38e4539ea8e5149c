-- What an opening answers, and the client that it begins with.
pub mod Fresh
pub mod Opening
