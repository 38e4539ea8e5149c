-- A plan follows the definition's poll (Steps, over Keys), and the code's draft is that plan (Drafting).
pub mod Keys
pub mod Steps
pub mod Drafting
