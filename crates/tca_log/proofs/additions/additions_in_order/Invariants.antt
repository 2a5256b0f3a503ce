use Rattle.std.proofs.Common.{◌≡◌, ◌≤◌, [], length, drop}
use Rattle.tca_log.specs.inside.Additions.{with_reports}
use Rattle.tca_log.proofs.additions.additions_in_order.Given as goal

-- what the reports so far made of the additions, and then what is left
abbrev pub invariant-loop-key : goal.invariant-loop-key
invariant-loop-key g l = record {
  so_far : with_reports l.index.rows l.disputed.rows (drop l.key-index l.keys) l.additions ≡ with_reports l.index.rows l.disputed.rows l.keys (record { fresh = []; newly_disputed = [] });
  few : length l.additions.fresh ≤ l.key-index;
  few_disputed : length l.additions.newly_disputed ≤ l.key-index;
}
