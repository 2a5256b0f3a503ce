-- A container of rows in order. It knows nothing of reports.
pub mod Ordered
