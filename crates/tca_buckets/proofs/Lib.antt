pub mod Due
pub mod Steps
