-- Chunks and lists of rows in order, whatever the rows are.
pub mod Among
pub mod Each
pub mod Kept
pub mod Near
pub mod Parts
pub mod Passing
pub mod Positions
pub mod Ranks
pub mod Rising
pub mod Search
pub mod Small
pub mod Ties
pub mod Whole
