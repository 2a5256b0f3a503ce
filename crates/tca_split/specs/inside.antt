-- What private functions and invariants alone cite. No public contract speaks of it.
pub mod Surveying
pub mod Buffering
