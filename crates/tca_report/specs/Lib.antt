pub mod report
pub mod device
pub mod export
pub mod input
pub mod Faults
pub mod inside
