pub mod Queues
pub mod Arrays
pub mod Spots
pub mod Trees
pub mod Bounds
pub mod Sorting
pub mod Either
