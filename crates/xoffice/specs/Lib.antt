pub mod Answers
pub mod Calls
pub mod Files
pub mod Sides
pub mod Stations
pub mod Untold
