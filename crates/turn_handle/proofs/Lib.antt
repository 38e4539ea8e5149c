-- The tests (Checks), answers that use and send nothing (Settling), an answer's arms (Arms), successes and failures (Outcomes), what is
-- read of a datagram (Datagrams), and that an event's data lies in it (Inside).
pub mod Settling
pub mod Arms
pub mod Outcomes
pub mod Datagrams
pub mod Inside
