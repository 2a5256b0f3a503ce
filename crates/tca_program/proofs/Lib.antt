pub mod Uniting
pub mod UnionLaws
pub mod InputLaws
pub mod NotedLaws
pub mod Splitting
pub mod Asking
pub mod LineLemmas
pub mod Refusing
