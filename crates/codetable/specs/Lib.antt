pub mod Codewords
pub mod Tables
pub mod Sequences
