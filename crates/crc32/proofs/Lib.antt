pub mod Bit
pub mod Byte
pub mod Examples
pub mod Fed
pub mod Join
pub mod Table
