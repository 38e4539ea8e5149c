-- UTF-8 with its ill-formed parts replaced (the Unicode Standard, section 3.9), and what the code's structs hold of it.
pub mod Utf8
pub mod Lossy
pub mod Following
