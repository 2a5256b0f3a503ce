pub mod Walks
pub mod Messages
pub mod Frames
pub mod FirstFaults
pub mod Faults
