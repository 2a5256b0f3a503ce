use Rattle.std.proofs.Common.{◌≡◌, ◌≢◌, false, get_or, length, take, true}
use Rattle.std.specs.List.{All, AllPairs}
use Rattle.tca_ingest.specs.EntryViews.{entry_views}
use Rattle.tca_ingest.specs.Passes.{IsFound}
use Rattle.tca_ingest.proofs.fitting.are_found.Given as goal

-- the numbers of the passes so far are marked as given
abbrev pub invariant-loop-pass : goal.invariant-loop-pass
invariant-loop-pass g l = record {
  numbers : length l.given ≡ 65536;
  marked : All (λ p. get_or l.given p.number false ≡ true) (take l.pass-index l.passes);
  apart : AllPairs (λ p q. p.number ≢ q.number) (take l.pass-index l.passes);
  found : All (IsFound (entry_views l.journal)) (take l.pass-index l.passes);
}
