pub mod Lanes
pub mod Books
pub mod Changes
pub mod ChangeLaws
pub mod inside
