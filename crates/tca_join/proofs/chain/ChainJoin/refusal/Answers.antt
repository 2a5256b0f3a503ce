use Rattle.std.proofs.Common.{ap, false}
use Rattle.tca_join.specs.Faults.{refusal}
use Rattle.tca_join.proofs.chain.ChainJoin.refusal.Goals as goal

pub returns-in-None : goal.returns-in-None
returns-in-None g c = rw (← c.self.view_is, ← c.other.view_is, ← c.as_slice.ensures, ← c.as_slice-2.ensures) (ap (λ clash. refusal clash false) c.in-None.ensures.value)
