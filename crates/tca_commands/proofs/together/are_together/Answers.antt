use Rattle.std.proofs.Common.{◌≡◌, ◌∙◌, ◌||◌, ◌++◌, Bool, true, false, List, [], ◌∷◌, append_assoc, append-nil, refl, sym, ap}
use Rattle.std.specs.List.{flat_map}
use Rattle.std.specs.Ordering.{eq_by_cmp}
use Rattle.tca_join.specs.Sets.{has}
use Rattle.tca_join.proofs.Sets.{has-append, or_assoc}
use Rattle.tca_join.proofs.Merge.{in_order_alike, in_order_of_rising}
use Rattle.tca_report.specs.report.Reports.{PacketReport, report_cmp}
use Rattle.tca_report.proofs.lemmas.report.Order.{report_total, report_exact}
use Rattle.tca_commands.specs.inside.Together.{left_of}
use Rattle.tca_commands.proofs.together.are_together.Goals as goal

or_none : (b : Bool) → (b || false) ≡ b
or_none true = refl
or_none false = refl

pub loop-report-init : goal.loop-report-init
unfolding has
loop-report-init c = record {
  count = c.in_ok-taken.ensures.count;
  done = [];
  order = sym (c.into_iter-report-iterator.ensures.into_iter_gives ∙ c.reports-report-items.ensures.all);
  members = λ q. ap (λ (rs : List PacketReport). has report_cmp rs q) (sym c.in_ok-taken.ensures.none);
}

pub loop-report-preserved : goal.loop-report-preserved
unfolding has
loop-report-preserved c =
    let l = c.loop-report in
    let r = c.in-Some.report.now in
    let done = l.invariant.done in
    record {
      count = c.take_next.ensures.count;
      done = done ++ r ∷ [];
      order = l.invariant.order ∙ ap (λ (rs : List PacketReport). done ++ rs) c.in-Some.ensures.steps ∙ sym (append_assoc done (r ∷ []) c.next.new.self);
      members = λ q.
          let tied = eq_by_cmp report_cmp q r in
          let left = has report_cmp (left_of c.args.lists.now c.take_next.new.taken.items) q in
          let one : has report_cmp (done ++ r ∷ []) q ≡ (has report_cmp done q || tied) = has-append report_cmp report_total done (r ∷ []) q ∙ ap (λ b. has report_cmp done q || b) (or_none tied) in
          l.invariant.members q ∙ ap (λ b. has report_cmp done q || b) (c.take_next.ensures.taken c.if-not-take_next.false q)
          ∙ sym (or_assoc (has report_cmp done q) tied left) ∙ ap (λ b. b || left) (sym one);
    }

pub returns : goal.returns
unfolding has
returns c ended =
    let lists = c.args.lists.now in
    let l = c.loop-report in
    let done = l.invariant.done in
    let all : c.args.log.now ≡ done = l.invariant.order ∙ ap (λ (rs : List PacketReport). done ++ rs) c.in-None.ensures.steps.0 ∙ append-nil done in
    let none : left_of lists l.taken.items ≡ [] = ap (left_of lists) (sym c.deref.ensures.value) ∙ c.are_taken.ensures ended in
    let members : (q : PacketReport) → has report_cmp (flat_map (λ rs. rs) lists) q ≡ has report_cmp c.args.log.now q =
    λ q. l.invariant.members q ∙ ap (λ (rs : List PacketReport). has report_cmp done q || has report_cmp rs q) none ∙ or_none (has report_cmp done q) ∙ ap (λ (rs : List PacketReport). has report_cmp rs q) (sym all) in
    in_order_alike report_cmp report_total report_exact (flat_map (λ rs. rs) lists) c.args.log.now members ∙ in_order_of_rising report_cmp report_total report_exact c.args.log.now c.reports-report-items.ensures.rises
