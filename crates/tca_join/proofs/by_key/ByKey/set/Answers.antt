use Rattle.std.proofs.Common.{sym}
use Rattle.tca_join.proofs.Positions.{rises_set, rises_insert}
use Rattle.tca_join.proofs.by_key.ByKey.set.Goals as goal

pub returns-in-Ok-clause-ok : goal.returns-in-Ok-clause-ok
returns-in-Ok-clause-ok g c =
    rw (← c.self.view_is) (sym ((rw c.deref.ensures.value at c.in-Ok.ensures.found).puts c.index_mut.result.now c.index_mut.ensures.value (λ _ v. v) c.args.value))

pub invariant_of-self : goal.invariant_of-self
invariant_of-self g c =
    rises_set c.self.inside.entries.items c.args.key c.in-Ok.at c.index_mut.result.now c.args.value c.self.invariant (rw c.deref.ensures.value at c.in-Ok.ensures.found) c.index_mut.ensures.value

pub invariant_of-self-in-Err : goal.invariant_of-self-in-Err
invariant_of-self-in-Err g c =
    rw c.in_ok-insert-in-Err.ensures.items (rises_insert c.self.inside.entries.items c.args.key c.in-Err.at c.args.value c.self.invariant (rw c.deref.ensures.value at c.in-Err.ensures.absent))
