-- What private functions alone cite. No public contract speaks of it.
pub mod Assured
