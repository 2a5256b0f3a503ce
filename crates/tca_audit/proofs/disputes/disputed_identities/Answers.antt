use Rattle.std.proofs.Common.{◌≡◌, length, ap, ◌∙◌}
use Rattle.std.specs.Prelude.{map}
use Rattle.std.specs.List.Sorted.{IsPermutation}
use Rattle.std.proofs.lemmas.List.{length-map}
use Rattle.std.proofs.lemmas.List.Sorted.{length_permutation}
use Rattle.tca_report.specs.report.Identities.{identity_of}
use Rattle.tca_audit.proofs.Repeats.{none_where_they_rise, repeats_are}
use Rattle.tca_audit.proofs.disputes.disputed_identities.Goals as goal

pub returns-clause-disputed : goal.returns-clause-disputed
returns-clause-disputed c =
    let permuted : IsPermutation (map identity_of c.args.reports.now) c.sort_unstable.new.self.items = rw c.in_ok-identities.ensures at c.sort_unstable.ensures.permutation in
    let all = repeats_are c.args.reports.now c.sort_unstable.new.self.items permuted c.sort_unstable.ensures.sorted in
    rw (c.deref.ensures.value, all) at c.repeated.ensures.repeats

pub returns-clause-few : goal.returns-clause-few
returns-clause-few c =
    let permuted : IsPermutation (map identity_of c.args.reports.now) c.sort_unstable.new.self.items = rw c.in_ok-identities.ensures at c.sort_unstable.ensures.permutation in
    let many : length c.deref.result.now ≡ length c.args.reports.now = ap length c.deref.ensures.value ∙ length_permutation (map identity_of c.args.reports.now) c.sort_unstable.new.self.items permuted ∙ length-map c.args.reports.now identity_of in
    rw many at c.repeated.ensures.few

pub returns-then-identities_ascend-clause-disputed : goal.returns-then-identities_ascend-clause-disputed
returns-then-identities_ascend-clause-disputed c = rw c.new.ensures.items (none_where_they_rise c.args.reports.now (c.identities_ascend.ensures c.if-identities_ascend.true))
