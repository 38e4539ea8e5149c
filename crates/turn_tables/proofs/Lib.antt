-- The laws of the tables' rows: what others cite is in Keys (positions and the definition's maps), Views (over any rows), Laws (the three tables) and Dues (what is listed).
pub mod Search
pub mod Moves
pub mod Keys
pub mod Views
pub mod Neat
pub mod Laws
pub mod Listing
pub mod Dues
pub mod Requests
