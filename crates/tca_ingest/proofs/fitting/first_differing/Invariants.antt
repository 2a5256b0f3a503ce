use Rattle.std.proofs.Common.{[], take}
use Rattle.tca_ingest.specs.EntryViews.{entry_views}
use Rattle.tca_ingest.specs.Passes.{AllOwned}
use Rattle.tca_ingest.proofs.fitting.first_differing.Given as goal

abbrev pub invariant-loop-i : goal.invariant-loop-i
invariant-loop-i g l = AllOwned (entry_views l.journal) [] (take l.i l.passes)
