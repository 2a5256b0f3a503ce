use Rattle.std.proofs.Common.{◌≡◌, take}
use Rattle.tca_ingest.specs.Works.{AreOwn, all_calls, views_of}
use Rattle.tca_ingest.proofs.collect.calls_in.Given as goal

abbrev pub invariant-loop-pass : goal.invariant-loop-pass
invariant-loop-pass g l = (views_of l.left.items ≡ all_calls (take l.pass-index l.passes)) × AreOwn (take l.pass-index l.passes)
