-- What private functions and invariants alone cite. No public contract speaks of it.
pub mod Layouts
pub mod Windows
pub mod Slotted
