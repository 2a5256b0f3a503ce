pub mod Spelling
pub mod Records
pub mod ReadingLoop
pub mod PartsWritten
pub mod RecordFaults
pub mod FirstFaults
