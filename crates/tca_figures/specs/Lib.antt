pub mod Figures
pub mod Lines
pub mod Begun
pub mod Reading
pub mod Faults
pub mod Sums
pub mod Totals
pub mod inside
