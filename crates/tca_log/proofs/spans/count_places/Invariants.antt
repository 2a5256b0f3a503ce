use Rattle.std.proofs.Common.{◌≡◌, ◌≤◌, ◌+◌, ◌*◌, drop}
use Rattle.tca_log.specs.inside.Spans.{widths}
use Rattle.tca_log.proofs.spans.count_places.Given as goal

abbrev pub invariant-loop-span : goal.invariant-loop-span
invariant-loop-span l = record {
  count : l.count + widths (drop l.span-index l.spans) ≡ widths l.spans;
  bound : l.count ≤ l.span-index * 4294967296;
}
