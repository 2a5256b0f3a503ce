use Rattle.std.proofs.lemmas.Grind.{common_steps}
use Rattle.std.proofs.Common.{arith}
use Rattle.tca_join.specs.laws.MapLaws.{rises_merged}
use Rattle.tca_join.proofs.by_key.ByKeyJoin.join_from.Goals as goal

pub invariant_of-self : goal.invariant_of-self
invariant_of-self g c =
    rw (c.in_ok-self-inside.ensures.ok, c.deref.ensures.value, c.deref-2.ensures.value) (rises_merged g.V.Join.joined c.self.inside.entries.items c.other.inside.entries.items c.self.invariant)

pub returns-then-is_empty-clause-compatible : goal.returns-then-is_empty-clause-compatible
returns-then-is_empty-clause-compatible g c = grind (arith, common_steps)

pub returns-then-is_empty-clause-within : goal.returns-then-is_empty-clause-within
returns-then-is_empty-clause-within g c = grind (arith, common_steps)

pub returns-then-is_empty-clause-ok : goal.returns-then-is_empty-clause-ok
returns-then-is_empty-clause-ok g c = grind (arith, common_steps)
