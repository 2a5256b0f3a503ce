-- What private functions and invariants alone cite. No public contract speaks of it.
pub mod Settling
pub mod Sharing
pub mod Pairing
