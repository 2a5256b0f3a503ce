-- Proofs of laws, which an `impl` cites. Whoever believes the definitions beside this folder needn't read them.
pub mod ChainLaws
pub mod CountLaws
pub mod MapLaws
pub mod JoinLaws
