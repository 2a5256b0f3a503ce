use Rattle.std.proofs.Common.{◌≡◌, ◌≤◌, ◌+◌, ◌-◌, ℕ, true, false, refl, arith}
use Rattle.std.specs.Prelude.{nat_lt}
use Rattle.std.proofs.lemmas.Bool.{ltb-true, ltb-false, lt-ltb, le-ltb}
use Rattle.tca_report.specs.report.Reports.{report_cmp}
use Rattle.tca_report.proofs.lemmas.report.Order.{report_total, report_exact}
use Rattle.tca_log.proofs.Uniting.{union_length}
use Rattle.tca_log.proofs.log.Log.is_over_with.Goals as goal

-- more than there is room for is more than the limit together
no_room : (most held new all : ℕ) → held ≤ most → all ≡ held + new → nat_lt (most - held) new ≡ nat_lt most all
no_room most held new all h e =
    elim (nat_lt most all) as (λ t. nat_lt most all ≡ t → nat_lt (most - held) new ≡ t) [
      | true ↦ λ is. lt-ltb (most - held) new (omega (arith, ltb-true most all is))
      | false ↦ λ is. le-ltb (most - held) new (omega (arith, ltb-false most all is))
    ] refl

pub returns : goal.returns
returns g c =
    let size = union_length report_cmp report_total report_exact c.self.inside.rows.rows c.other.inside.rows.rows c.self.invariant.rises c.other.invariant.rises in
    rw (c.len.ensures.length, c.count_beyond.ensures, ← c.self.view_is, ← c.other.view_is) (no_room 4194304 _ _ _ c.len.ensures.limit size)
