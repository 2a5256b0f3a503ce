pub mod Reports
pub mod Identities
