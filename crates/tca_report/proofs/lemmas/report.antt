pub mod Order
pub mod Identities
