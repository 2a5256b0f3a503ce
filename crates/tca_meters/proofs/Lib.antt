pub mod Coloured
pub mod SpecParts
pub mod SpecNumbers
pub mod NoTime
pub mod Terms
pub mod InTurn
pub mod Apart
pub mod Slots
