use Rattle.std.proofs.Common.{◌≡◌, ◌+◌, ◌-◌, Bool, true, false, cond, List, [], ◌∷◌, ◌++◌, get_or, drop, ap, sym, subst, ◌∙◌, arith, rules}
use Rattle.std.specs.Ordering.{eq_by_cmp}
use Rattle.std.specs.List.Sorted.{IsSorted}
use Rattle.tca_join.specs.Sets.{has}
use Rattle.tca_report.specs.declared.report.Identity.{Identity}
use Rattle.tca_report.specs.report.Identities.{identity_cmp, identity_total}
use Rattle.tca_log.proofs.Repeats.{repeated_in, repeated_next, repeated_end, order_from_sorted, order_repeated, sorted_from_order, twice_in}
use Rattle.tca_log.proofs.disputes.repeated.Goals as goal
use Rattle.tca_log.proofs.disputes.repeated.Goals.{then-eq+in_ok-push, else-eq}

abbrev none : Identity
none = record { domain = 0; session = 0; place = 0 }

pub loop-at-preserved : goal.loop-at-preserved
loop-at-preserved g c =
    let xs = c.args.identities.now in
    let y = get_or xs c.loop-at.at none in
    let x = get_or xs (c.loop-at.at - 1) none in
    let so_far = c.loop-at.again.items in
    let all = repeated_in identity_cmp xs in
    let next = repeated_next xs c.loop-at.at none so_far all (omega arith) (omega arith) c.loop-at.invariant in
    elim c.if-eq.branch [
      | then-eq+in_ok-push w ↦
          let tied : eq_by_cmp identity_cmp y x ≡ true = sym c.eq.ensures ∙ w.if-eq.true in
          rw (w.again-is, w.in_ok-push.ensures.items) (subst (λ (b : Bool). cond b (so_far ++ y ∷ []) so_far ++ repeated_in identity_cmp (drop (c.loop-at.at + 1 - 1) xs) ≡ all) tied next)
      | else-eq w ↦
          let apart : eq_by_cmp identity_cmp y x ≡ false = sym c.eq.ensures ∙ w.if-eq.false in
          rw w.again-is (subst (λ (b : Bool). cond b (so_far ++ y ∷ []) so_far ++ repeated_in identity_cmp (drop (c.loop-at.at + 1 - 1) xs) ≡ all) apart next)
    ]

pub returns-clause-twice : goal.returns-clause-twice
returns-clause-twice g c i =
    let all : c.loop-at.again.items ≡ repeated_in identity_cmp c.args.identities.now = repeated_end c.args.identities.now c.loop-at.at c.loop-at.again.items (repeated_in identity_cmp c.args.identities.now) (omega arith) c.loop-at.invariant in
    ap (λ (l : List Identity). has identity_cmp l i) all ∙ twice_in identity_cmp identity_total c.args.identities.now (order_from_sorted identity_cmp identity_total c.args.identities.now c.requires) i

pub returns-clause-sorted : goal.returns-clause-sorted
returns-clause-sorted g c =
    let all : c.loop-at.again.items ≡ repeated_in identity_cmp c.args.identities.now = repeated_end c.args.identities.now c.loop-at.at c.loop-at.again.items (repeated_in identity_cmp c.args.identities.now) (omega arith) c.loop-at.invariant in
    subst (IsSorted identity_cmp) (sym all) (sorted_from_order identity_cmp identity_total (repeated_in identity_cmp c.args.identities.now) (order_repeated identity_cmp identity_total c.args.identities.now (order_from_sorted identity_cmp identity_total c.args.identities.now c.requires)))

pub loop-at-init : goal.loop-at-init
loop-at-init g c = search rules
