-- What private functions and invariants alone cite. No public contract speaks of it.
pub mod Absorbs
pub mod Outputs
pub mod Together
