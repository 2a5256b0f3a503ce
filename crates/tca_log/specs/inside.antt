-- What private functions and invariants alone cite. No public contract speaks of it.
pub mod Additions
pub mod Logs
pub mod Chunks
pub mod Spans
pub mod Numbers
