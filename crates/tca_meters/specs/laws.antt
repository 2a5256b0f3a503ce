-- Proofs of laws, which an `impl` cites. Whoever believes the definitions beside this folder needn't read them.
pub mod AnyMeterLaws
pub mod LevelsLaws
pub mod Rfc4115Laws
pub mod SrTcmLaws
pub mod TermedLaws
pub mod TrTcmLaws
