use Rattle.std.proofs.Common.{◌++◌, List, refl, sym, ap, ◌∙◌}
use Rattle.tca_report.specs.declared.report.Identity.{Identity}
use Rattle.tca_audit.proofs.Repeats.{again_here, few_repeats, none_more, once_here, repeats_here}
use Rattle.tca_audit.proofs.disputes.repeated.Goals as goal
use Rattle.tca_audit.proofs.disputes.repeated.Goals.{then-stands_at+then-not-stands_at+in_ok-push, else-stands_at, else-stands_at-via-then-stands_at+else-not-stands_at, else-stands_at-via-else-stands_at}

abbrev none : Identity
none = record { domain = 0; session = 0; place = 0 }

pub loop-at-init : goal.loop-at-init
loop-at-init c = rw c.new-list.ensures.items refl

pub loop-at-preserved : goal.loop-at-preserved
loop-at-preserved c =
    let l = c.loop-at in
    let sorted = c.args.sorted.now in
    elim c.if-stands_at.branch [
      | then-stands_at+then-not-stands_at+in_ok-push w ↦ rw (w.list-is, w.in_ok-push.ensures.items) (repeats_here sorted l.at none c.loop-at-test.true w.if-stands_at.ensures w.if-not-stands_at.ensures l.list.items ∙ l.invariant)
      | else-stands_at w ↦ rw w.list-is (elim w.else-stands_at.branch [
        | else-stands_at-via-then-stands_at+else-not-stands_at v ↦ ap (λ (ys : List Identity). l.list.items ++ ys) (again_here sorted l.at none c.loop-at-test.true v.if-stands_at.ensures v.if-not-stands_at.ensures) ∙ l.invariant
        | else-stands_at-via-else-stands_at v ↦ ap (λ (ys : List Identity). l.list.items ++ ys) (once_here sorted l.at none c.loop-at-test.true v.if-stands_at.ensures) ∙ l.invariant
      ])
    ]

pub returns-clause-repeats : goal.returns-clause-repeats
returns-clause-repeats c =
    let l = c.loop-at in
    sym (none_more c.args.sorted.now l.at l.list.items c.loop-at-test.false) ∙ l.invariant

pub returns-clause-few : goal.returns-clause-few
returns-clause-few c =
    let l = c.loop-at in
    let whole = sym (none_more c.args.sorted.now l.at l.list.items c.loop-at-test.false) ∙ l.invariant in
    rw whole (few_repeats c.args.sorted.now)
