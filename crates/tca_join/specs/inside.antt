-- What private functions and the types' invariants alone cite.
pub mod Stores
