-- What was given fixes a history (Once). Demand 1 (First). Demand 2: `by_num` (Names), events (Events), the steps (Second), machine numbers (Machine). Demand 3: what is alike is
-- read alike (Reading), what is written under two keys is alike (Writing), runs that differ in their secrets alone (Levels, Handling), what
-- two such clients answer (Evens), the steps (Third).
pub mod Once
pub mod First
pub mod Names
pub mod Events
pub mod Second
pub mod Machine
pub mod Reading
pub mod Writing
pub mod Levels
pub mod Handling
pub mod Evens
pub mod Third
