pub mod Tokens
pub mod Buckets
