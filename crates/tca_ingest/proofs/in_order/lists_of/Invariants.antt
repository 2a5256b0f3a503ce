use Rattle.std.proofs.Common.{◌≡◌, take}
use Rattle.tca_ingest.specs.Works.{AreOwn, all_calls, calls_left}
use Rattle.tca_ingest.proofs.in_order.lists_of.Given as goal

abbrev pub invariant-loop-pass : goal.invariant-loop-pass
invariant-loop-pass g l = (calls_left l.left.items ≡ all_calls (take l.pass-index l.passes)) × AreOwn (take l.pass-index l.passes)
