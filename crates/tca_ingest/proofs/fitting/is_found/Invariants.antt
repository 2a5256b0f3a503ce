use Rattle.std.proofs.Common.{◌≡◌, take}
use Rattle.tca_ingest.specs.EntryViews.{entry_views}
use Rattle.tca_ingest.specs.Passes.{AreAtFrom}
use Rattle.tca_ingest.proofs.Finding.{next_place}
use Rattle.tca_ingest.proofs.fitting.is_found.Given as goal

abbrev pub invariant-loop-i : goal.invariant-loop-i
invariant-loop-i g l = record {
  at : AreAtFrom 0 (take l.i l.places) (entry_views l.journal) (take l.i (entry_views l.calls));
  next : next_place 0 (take l.i l.places) ≡ l.next;
}
