pub mod Rows
pub mod Disputes
pub mod Faults
pub mod LogJoin
pub mod Arrivals
pub mod Next
pub mod NextLaws
pub mod inside
