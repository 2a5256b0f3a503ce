use Rattle.std.proofs.Common.{◌≡◌, List, ap, subst, sym, arith, length}
use Rattle.std.specs.Prelude.{IfOk}
use Rattle.std.specs.List.Sorted.{IsStrictlySortedBy}
use Rattle.std.specs.Ordering.{eq_by_cmp}
use Rattle.std.proofs.lemmas.List.Filters.{dedup_is}
use Rattle.tca_report.specs.declared.report.Identity.{Identity}
use Rattle.tca_report.specs.report.Identities.{identity_cmp}
use Rattle.tca_log.specs.Disputes.{disputed}
use Rattle.tca_log.proofs.Contents.{disputed_rises}
use Rattle.tca_log.proofs.Repeats.{disputed_few, disputes_are, found_are}
use Rattle.tca_log.proofs.disputes.disputes_of.Goals as goal

pub of_ascending-requires-clause-rises : goal.of_ascending-requires-clause-rises
of_ascending-requires-clause-rises g c =
    let rows = c.args.reports.now.rows in
    let again = c.in_ok-disputed.disputed.items in
    let sorted = c.sort_unstable.new.self.items in
    let found = c.dedup.new.self.items in
    let set = found_are again sorted found c.sort_unstable.ensures.permutation c.sort_unstable.ensures.sorted (dedup_is (eq_by_cmp identity_cmp) sorted found c.dedup.ensures.filtered) in
    let all : found ≡ disputed rows = disputes_are rows again found c.in_ok-disputed.ensures set in
    subst (IsStrictlySortedBy identity_cmp) (sym all) (disputed_rises rows)

pub of_ascending-requires-clause-few : goal.of_ascending-requires-clause-few
of_ascending-requires-clause-few g c =
    let rows = c.args.reports.now.rows in
    let again = c.in_ok-disputed.disputed.items in
    let sorted = c.sort_unstable.new.self.items in
    let found = c.dedup.new.self.items in
    let set = found_are again sorted found c.sort_unstable.ensures.permutation c.sort_unstable.ensures.sorted (dedup_is (eq_by_cmp identity_cmp) sorted found c.dedup.ensures.filtered) in
    let all : found ≡ disputed rows = disputes_are rows again found c.in_ok-disputed.ensures set in
    omega (arith, ap length all, disputed_few rows, c.requires)

pub returns : goal.returns
returns g c =
    let rows = c.args.reports.now.rows in
    let again = c.in_ok-disputed.disputed.items in
    let sorted = c.sort_unstable.new.self.items in
    let found = c.dedup.new.self.items in
    let set = found_are again sorted found c.sort_unstable.ensures.permutation c.sort_unstable.ensures.sorted (dedup_is (eq_by_cmp identity_cmp) sorted found c.dedup.ensures.filtered) in
    let all : found ≡ disputed rows = disputes_are rows again found c.in_ok-disputed.ensures set in
    subst (λ (l : List Identity). IfOk c.of_ascending.result (λ o. o.rows ≡ l)) all c.of_ascending.ensures.rows
