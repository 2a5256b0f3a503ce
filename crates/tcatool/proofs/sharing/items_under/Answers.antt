use Rattle.std.proofs.Common.{◌≡◌, ◌∙◌, length, map, ap, sym, subst, arith}
use Rattle.std.proofs.lemmas.List.{length-map, take_at}
use Rattle.tcatool.specs.Listed.{AreItemsUnder, item_alone}
use Rattle.tcatool.specs.declared.item.Item.{Item}
use Rattle.tcatool.proofs.Settling.{none_yet}
use Rattle.tcatool.proofs.SharedItems.{items_are, settled_rise}
use Rattle.tcatool.proofs.sharing.items_under.Goals as goal

pub share_out-requires-clause-alone : goal.share_out-requires-clause-alone
share_out-requires-clause-alone c = rw (c.deref_mut-2.ensures.value, c.in_ok-items.ensures.items) (none_yet c.args.log.now c.args.log.now)

pub share_out-requires-clause-rises : goal.share_out-requires-clause-rises
share_out-requires-clause-rises c = rw (c.deref_mut-2.ensures.value, c.in_ok-items.ensures.items) (settled_rise c.args.log.now c.in_ok-items.ensures.rises)

pub returns : goal.returns
returns c =
    let rs = c.args.log.now in
    let before : c.deref_mut-2.result.now ≡ map (item_alone rs) rs = c.deref_mut-2.ensures.value ∙ c.in_ok-items.ensures.items in
    let given = rw before at c.share_out.ensures.given in
    let colours = rw before at c.share_out.ensures.colours in
    let many : length c.share_out.new.items ≡ c.in_ok-items.items.len = omega (arith, ap length c.share_out.ensures.given.reports, ap length c.deref_mut-2.ensures.value, length-map c.share_out.new.items (λ (i : Item). i.report), length-map c.deref_mut-2.result.now (λ (i : Item). i.report), c.in_ok-items.items.ok.0) in
    subst (AreItemsUnder c.args.plan.now rs) (sym (take_at c.share_out.new.items _ c.in_ok-items.items.len many)) (items_are c.args.plan.now rs c.share_out.new.items given colours)
