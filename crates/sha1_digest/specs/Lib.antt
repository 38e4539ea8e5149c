-- SHA-1: the definition, and the code's running digest as the definition sees it.
pub mod Rfc3174
pub mod View
