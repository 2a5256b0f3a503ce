use Rattle.std.proofs.Common.{◌≡◌, true, false, ◌-◌, ◌<◌, ◌≤◌, length, get_or, []}
use Rattle.tca_log.specs.inside.Chunks.{starts_after}
use Rattle.tca_log.proofs.rows.locate.position.Given as goal

abbrev pub invariant-loop-low : goal.invariant-loop-low
invariant-loop-low g l = record {
  inside : l.high < length l.chunks;
  order : l.low ≤ l.high;
  apart : 1 < length l.chunks → l.low < l.high;
  low : 0 < l.low → starts_after g.K.Ord.cmp l.key (get_or l.chunks l.low []) ≡ false;
  high : starts_after g.K.Ord.cmp l.key (get_or l.chunks l.high []) ≡ true;
}

abbrev pub decreases-loop-low : goal.decreases-loop-low
decreases-loop-low g l = l.high - l.low
