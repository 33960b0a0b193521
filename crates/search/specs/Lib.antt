pub mod Graphs
pub mod Searches
pub mod Frontiers
