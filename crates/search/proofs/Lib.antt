pub mod Ahead
pub mod Lowered
pub mod Begun
pub mod Taken
pub mod Counting
pub mod Ended
pub mod Shortest
