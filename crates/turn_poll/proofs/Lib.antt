-- Requests come into their table as in the definition (Coming); what is written are its packets (Packets); the number is its number and
-- the answer its answer (Deciding); before the deadline there is nothing to do (Idle); a
-- permission's success (Permitting).
pub mod Coming
pub mod Packets
pub mod Deciding
pub mod Idle
pub mod Permitting
