use Rattle.std.proofs.Common.{◌≡◌, ◌<◌, ◌++◌, Ok, drop, take}
use Rattle.toml.specs.View.{items_view}
use Rattle.tca_report.specs.report.Reports.{time_end}
use Rattle.tca_join.specs.Results.{◌>>=◌}
use Rattle.tca_accounts.specs.Documents.{terms_from}
use Rattle.tca_accounts.proofs.terms.read_terms.Given as goal

-- what is left decides, with the terms so far in front
abbrev pub invariant-loop-n : goal.invariant-loop-n
invariant-loop-n l = record {
  time : l.last < time_end;
  decides : terms_from l.account 0 (items_view l.values) ≡ (terms_from l.account l.last (items_view (drop l.n l.values)) >>= λ rest. Ok (take l.n l.slots ++ rest));
}
