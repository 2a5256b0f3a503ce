use Rattle.std.proofs.Common.{◌≡◌, ◌≤◌, ◌<◌, ◌+◌, ◌-◌, ◌^◌}
use Rattle.tca_audit.proofs.TokensLeft.{come}
use Rattle.tca_audit.proofs.arrivals.let_in.Given as goal

abbrev pub invariant-loop-bucket : goal.invariant-loop-bucket
invariant-loop-bucket l = record {
  start : l.fn.token ≤ l.next;
  finish : l.next ≤ come l.fn.rate l.fn.time + 1;
  few : come l.fn.rate l.fn.time < 2 ^ 90;
  level : l.bucket.level + l.fn.token ≡ l.fn.bucket.level + l.next;
  size : l.bucket.cap ≡ l.fn.bucket.cap;
}

abbrev pub decreases-loop-bucket : goal.decreases-loop-bucket
decreases-loop-bucket l = come l.fn.rate l.fn.time + 1 - l.next
