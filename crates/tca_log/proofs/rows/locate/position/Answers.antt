use Rattle.std.proofs.Common.{◌≡◌, true, ◌+◌, get_or, [], subst, arith}
use Rattle.tca_log.specs.inside.Chunks.{starts_after}
use Rattle.tca_log.proofs.rows.locate.position.Goals as goal

pub returns : goal.returns
returns g c = record {
  inside = omega arith;
  low = c.loop-low.invariant.low;
  high = λ l. let e : c.loop-low.high ≡ c.loop-low.low + 1 = omega arith in subst (λ m. starts_after g.K.Ord.cmp c.args.key.now (get_or c.args.chunks.now m []) ≡ true) e c.loop-low.invariant.high;
}
