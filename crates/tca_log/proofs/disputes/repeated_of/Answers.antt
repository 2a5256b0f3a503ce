use Rattle.std.proofs.Common.{◌∙◌, List, ap}
use Rattle.std.specs.Prelude.{nat_lt}
use Rattle.tca_report.specs.declared.report.Identity.{Identity}
use Rattle.tca_report.specs.report.Identities.{identity_cmp, identity_total}
use Rattle.tca_log.specs.inside.Additions.{times}
use Rattle.tca_log.proofs.Repeats.{times_moved}
use Rattle.tca_log.proofs.disputes.repeated_of.Goals as goal

pub returns : goal.returns
returns g c i =
    let some = c.in_ok-identities.identities.items in
    let sorted = c.sort_unstable.new.self.items in
    c.in_ok-twice.ensures.twice i
    ∙ ap (λ (l : List Identity). nat_lt 1 (times identity_cmp i l)) c.deref.ensures.value
    ∙ ap (nat_lt 1) (times_moved identity_cmp identity_total i some sorted c.sort_unstable.ensures.permutation)
    ∙ c.in_ok-identities.ensures i
