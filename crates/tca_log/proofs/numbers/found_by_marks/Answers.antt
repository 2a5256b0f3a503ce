use Rattle.std.proofs.Common.{◌∙◌, List, ap}
use Rattle.std.specs.Prelude.{nat_lt}
use Rattle.std.proofs.lemmas.Result.{IfOk-weaker}
use Rattle.tca_report.specs.declared.report.Identity.{Identity}
use Rattle.tca_report.specs.report.Identities.{identity_cmp}
use Rattle.tca_log.specs.inside.Additions.{times}
use Rattle.tca_log.proofs.Numbered.{none_twice, still_twice}
use Rattle.tca_log.proofs.numbers.found_by_marks.Goals as goal

pub returns-then-not-mark_all : goal.returns-then-not-mark_all
returns-then-not-mark_all g c = λ i.
    ap (λ (l : List Identity). nat_lt 1 (times identity_cmp i l)) c.new.ensures.items
    ∙ none_twice c.args.bits c.args.reports.now.rows c.mark_all.new.marks c.mark_all.ensures.marked (c.mark_all.ensures.apart c.if-not-mark_all.true) i

pub returns : goal.returns
returns g c =
    IfOk-weaker c.marked_twice.result _ _ (λ some is i. ap (λ (l : List Identity). nat_lt 1 (times identity_cmp i l)) is ∙ still_twice c.args.bits c.args.reports.now.rows c.mark_all.new.marks c.mark_all.ensures.marked i) c.marked_twice.ensures
