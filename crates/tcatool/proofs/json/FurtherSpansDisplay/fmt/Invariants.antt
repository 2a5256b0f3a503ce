use Rattle.std.proofs.Common.{map, take}
use Rattle.std.specs.Fmt.{HasWritten, IsPlainFormatter}
use Rattle.tcatool.specs.Json.{further_json, span_json}
use Rattle.tcatool.proofs.json.FurtherSpansDisplay.fmt.Given as goal

-- the items so far
abbrev pub invariant-loop-span : goal.invariant-loop-span
invariant-loop-span g l = IsPlainFormatter l.fn.f → HasWritten g.W.Write.write_str_gives l.fn.f (further_json (map (span_json l.period) (take l.span-index l.spans))) l.f
