pub mod Walking
pub mod Sets
pub mod Tiles
pub mod Framings
pub mod FramesOf
pub mod Lending
pub mod FirstFaults
