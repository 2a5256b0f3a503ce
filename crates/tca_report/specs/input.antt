pub mod Extract
pub mod Inputs
pub mod Captures
pub mod FirstFaults
pub mod Wants
pub mod Gathered
