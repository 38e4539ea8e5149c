-- What the client's definition means: the worked cases (Cases); refusals (Refused); what is easily missed (Missed, Handled); what every
-- call keeps (Kept): the channels' numbers, and so the source's second map (Channels, Numbers), and that the lists are maps (Keys, Unique).
pub mod Cases
pub mod Refused
pub mod Steps
pub mod Missed
pub mod Handled
pub mod Kept
pub mod Calls
pub mod Rows
pub mod Channels
pub mod Numbers
pub mod Keys
pub mod Unique
