pub mod Shards
pub mod Windows
pub mod Statements
