pub mod TokensLeft
pub mod Verdicts
pub mod Bills
pub mod Repeats
pub mod Refusals
pub mod TermsInTurn
