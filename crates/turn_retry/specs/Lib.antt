-- What a retry is (Retry), and what the code learns and keeps by it (Learning).
pub mod Retry
pub mod Learning
