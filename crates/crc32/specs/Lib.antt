pub mod Crc
pub mod Register
pub mod Table
