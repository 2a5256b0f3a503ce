use Rattle.std.proofs.Common.{◌≡◌, ◌*◌, ◌^◌, ◌≤◌, take}
use Rattle.tca_ingest.specs.Passes.{count_of}
use Rattle.tca_ingest.proofs.fitting.given_by.Given as goal

abbrev pub invariant-loop-pass : goal.invariant-loop-pass
invariant-loop-pass g l = record {
  sum : l.given ≡ count_of (take l.pass-index l.passes);
  small : l.given ≤ l.pass-index * 2 ^ 64;
}
