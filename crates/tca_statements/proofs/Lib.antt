pub mod AccountLines
pub mod AmountSums
pub mod IssuedEntries
pub mod OctetLimits
pub mod SpanSearch
