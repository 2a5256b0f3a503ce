use Rattle.std.proofs.Common.{◌≡◌, ◌+◌, drop}
use Rattle.tca_log.specs.inside.Spans.{IsAmong, slot, widths}
use Rattle.tca_log.proofs.spans.slot_of.Given as goal

abbrev pub invariant-loop-span : goal.invariant-loop-span
invariant-loop-span l = record {
  among : IsAmong (drop l.span-index l.spans) l.identity;
  number : l.before + slot (drop l.span-index l.spans) l.identity ≡ slot l.spans l.identity;
  total : l.before + widths (drop l.span-index l.spans) ≡ widths l.spans;
}
