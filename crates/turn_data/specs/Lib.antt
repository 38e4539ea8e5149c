-- What the packets of `send`'s data are, and how long they are.
pub mod Data
