use Rattle.std.proofs.Common.{◌≢◌, take}
use Rattle.std.specs.List.{AllByRecursion}
use Rattle.tca_ingest.specs.EntryViews.{entry_view}
use Rattle.tca_ingest.specs.Works.{views_of}
use Rattle.tca_ingest.proofs.collect.place_of.Given as goal

-- none of those so far is this entry
abbrev pub invariant-loop-at : goal.invariant-loop-at
invariant-loop-at l = AllByRecursion (λ e. e ≢ entry_view l.entry) (views_of (take l.at l.left))
