use Rattle.std.proofs.Common.{◌≡◌, ◌++◌, take}
use Rattle.tca_ingest.specs.EntryViews.{entry_views}
use Rattle.tca_ingest.specs.Works.{views_of}
use Rattle.tca_ingest.proofs.collect.add_calls.Given as goal

abbrev pub invariant-loop-entry : goal.invariant-loop-entry
invariant-loop-entry l = views_of l.left.items ≡ views_of l.fn.left.items ++ entry_views (take l.entry-index l.calls)
