use Rattle.std.proofs.Common.{◌≡◌, ◌↔◌, ◌≤◌, length, drop}
use Rattle.tca_ingest.specs.Passes.{calls_of}
use Rattle.tca_ingest.specs.EntryViews.{entry_views}
use Rattle.tca_ingest.proofs.fitting.is_calls_of.Given as goal

-- what is left of the journal has what is left of the list, just where the whole does
abbrev pub invariant-loop-entry : goal.invariant-loop-entry
invariant-loop-entry l = record {
  met : l.met ≤ length l.calls;
  rest : (calls_of l.number (entry_views (drop l.entry-index l.journal)) ≡ entry_views (drop l.met l.calls)) ↔ (calls_of l.number (entry_views l.journal) ≡ entry_views l.calls);
}
