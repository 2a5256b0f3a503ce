use Rattle.std.proofs.Common.{◌≡◌, ◌∙◌, ◌++◌, List, None, ap, sym, map, filter}
use Rattle.tca_accounts.proofs.Bills.{rest_later}
use Rattle.tcatool.specs.Listed.{is_settled, item_alone}
use Rattle.tcatool.specs.declared.item.Item.{Item}
use Rattle.tcatool.proofs.Settling.{ahead_from, item_more, next_is, settled_are, stayed, went_on}
use Rattle.tcatool.proofs.item.items_of.Goals as goal
use Rattle.tcatool.proofs.item.items_of.Goals.{then-is_settled, else-is_settled}

pub loop-report-init : goal.loop-report-init
loop-report-init c =
    let rs = c.args.log.now in
    let all : c.into_iter-report-iterator.result ≡ rs = cc in
    record {
      items = ap (λ (l : List Item). l ++ map (item_alone rs) c.into_iter-report-iterator.result) c.in_ok-items.ensures.items ∙ ap (map (item_alone rs)) all;
      settled = ahead_from c.settled-settled.result c.next-next.result c.next-next.new.self c.next-next.ensures.steps ∙ c.settled-settled.ensures.all ∙ settled_are rs ∙ ap (filter (is_settled rs)) (sym all);
      rises = rw all c.reports-report-items.ensures.rises;
    }

pub loop-report-preserved : goal.loop-report-preserved
loop-report-preserved c =
    let l = c.loop-report in
    let rs = c.args.log.now in
    let x = c.in-Some.report.now in
    let rest = c.next.new.self in
    let items = rw c.in-Some.ensures.steps at l.invariant.items in
    let settled = rw c.in-Some.ensures.steps at l.invariant.settled in
    let rises = rw c.in-Some.ensures.steps at l.invariant.rises in
    let item : Item = record { report = x; is_settled = c.is_next-is_settled.result; share = None } in
    let state : c.is_next-is_settled.result ≡ is_settled rs x = c.is_next-is_settled.ensures ∙ next_is (is_settled rs) x rest rises l.next l.settled settled in
    record {
      items = item_more rs l.items.items c.push.new.self.items x rest item items (λ i. record { report = x; is_settled = state i; share = None }) c.in_ok-push.ensures.items;
      settled = elim c.if-is_settled.branch [
        | then-is_settled w ↦
            rw (w.next-is, w.settled-is)
            (went_on (is_settled rs) x rest rises l.next l.settled settled (sym c.is_next-is_settled.ensures ∙ w.if-is_settled.true) w.next-next-then-is_settled.result w.next-next-then-is_settled.new.self w.next-next-then-is_settled.ensures.steps)
        | else-is_settled w ↦ rw (w.next-is, w.settled-is) (stayed (is_settled rs) x rest rises l.next l.settled settled (sym c.is_next-is_settled.ensures ∙ w.if-is_settled.false))
      ];
      rises = (rest_later x rest rises).1;
    }
