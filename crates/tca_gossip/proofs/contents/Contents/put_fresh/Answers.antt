use Rattle.std.proofs.Common.{◌≡◌, ◌∙◌, ◌+◌, ◌++◌, ℕ, List, length, take, refl, subst, sym, ap, arith, length-append}
use Rattle.std.proofs.Math.Seq.{take-append_seam}
use Rattle.tca_report.specs.report.Reports.{PacketReport}
use Rattle.tca_join.specs.Chains.{ChainView}
use Rattle.tca_join.specs.Maps.{Rises}
use Rattle.tca_accounts.specs.Plans.{AccountPlan}
use Rattle.tca_gossip.specs.inside.Storage.{held_of, replica_of}
use Rattle.tca_gossip.proofs.Agreeing.{without_book}
use Rattle.tca_gossip.proofs.AtOnce.{again_contents, again_is, back_held, back_rises, back_set, more_kept, own_is, own_replica, own_room, own_within_all, refilled}
use Rattle.tca_gossip.proofs.contents.Contents.put_fresh.Goals as goal

pub with_fresh-requires : goal.with_fresh-requires
with_fresh-requires c =
    let few = length c.args.fresh in
    let room = own_room c.self.inside.name c.self.inside.log c.self.inside.chains c.self.inside.billing few few (few + length c.self.inside.log) c.self.invariant (omega arith) refl (omega (arith, c.if-count-len.false, c.len-count.ensures, c.len.ensures.length, c.len.ensures.limit)) in
    omega (arith, room, ap length c.held_of-held.ensures.items)

pub of-requires : goal.of-requires
of-requires c =
    let few = length c.args.fresh in
    let room = own_room c.self.inside.name c.self.inside.log c.self.inside.chains c.self.inside.billing few few (few + length c.self.inside.log) c.self.invariant (omega arith) refl (omega (arith, c.if-count-len.false, c.len-count.ensures, c.len.ensures.length, c.len.ensures.limit)) in
    omega (arith, room, ap length c.held_of-held.ensures.items, ap length c.in_ok-list.ensures, length-append c.held_of-held.result.now c.args.fresh)

pub invariant_of-self-2 : goal.invariant_of-self-2
invariant_of-self-2 c =
    let name = c.self.inside.name in
    let log = c.self.inside.log in
    let es = c.self.inside.chains in
    let billing = c.self.inside.billing in
    let fresh = c.args.fresh in
    let list : c.in_ok-list.list ≡ held_of es name ++ fresh = c.in_ok-list.ensures ∙ ap (λ (l : List PacketReport). l ++ fresh) c.held_of-held.ensures.items in
    let chains = λ (q : ℕ). ap (λ (fs : List (ℕ × ChainView PacketReport)). held_of fs q) c.in_ok-set.ensures.ok ∙ more_kept es c.self.invariant.rises name fresh c.of.result (ap (λ (v : ChainView PacketReport). v.items) c.of.ensures ∙ list) q in
    let same = rw (← c.self.view_is) at c.requires.same in
    let new = rw (← c.self.view_is) at c.requires.new in
    let logs = c.in_default.ensures.ok ∙ same in
    let replica = own_replica name log c.add_set.new.self es c.set-2.new.self billing c.self.invariant fresh c.keys-rises.ensures.rises chains logs in
    let within = own_within_all name log c.add_set.new.self es c.set-2.new.self billing c.self.invariant fresh c.keys-rises.ensures.rises chains logs (omega (arith, new, ap length logs)) in
    refilled name billing.plan c.add_set.new.self c.set-2.new.self c.release.new.self c.keys-rises.ensures.rises replica within c.release.ensures.plan (without_book c.add_set.new.self c.release.new.self c.release.ensures.kept)

pub returns-clause-state : goal.returns-clause-state
returns-clause-state c =
    let name = c.self.inside.name in
    let es = c.self.inside.chains in
    let fresh = c.args.fresh in
    let list : c.in_ok-list.list ≡ held_of es name ++ fresh = c.in_ok-list.ensures ∙ ap (λ (l : List PacketReport). l ++ fresh) c.held_of-held.ensures.items in
    let chains = λ (q : ℕ). ap (λ (fs : List (ℕ × ChainView PacketReport)). held_of fs q) c.in_ok-set.ensures.ok ∙ more_kept es c.self.invariant.rises name fresh c.of.result (ap (λ (v : ChainView PacketReport). v.items) c.of.ensures ∙ list) q in
    let same = rw (← c.self.view_is) at c.requires.same in
    let logs = c.in_default.ensures.ok ∙ same in
    let plan = ap (λ (p : AccountPlan). replica_of name p c.add_set.new.self c.set-2.new.self) c.release.ensures.plan in
    rw (← c.self.view_is) (plan ∙ own_is name c.self.inside.log c.add_set.new.self es c.set-2.new.self c.self.inside.billing c.self.invariant fresh c.keys-rises.ensures.rises chains logs)

pub invariant_of-self-in-Err : goal.invariant_of-self-in-Err
invariant_of-self-in-Err c =
    let name = c.self.inside.name in
    let es = c.self.inside.chains in
    let rises = c.self.invariant.rises in
    let held = c.held_of-held.result.now in
    let gone = back_set es rises name c.of.result c.of-in-Err.result c.set-2.new.self c.set-in-Err.new.self c.set-in-Err.result c.in_ok-set.ensures.ok c.set-in-Err.ensures.there c.set-in-Err.ensures.ok in
    let items : c.of-in-Err.result.items ≡ held_of es name =
    ap (λ (v : ChainView PacketReport). v.items) c.of-in-Err.ensures ∙ c.first.ensures ∙ ap (take (length held)) (c.in_ok-both.ensures ∙ c.in_ok-list.ensures) ∙ take-append_seam held c.args.fresh ∙ c.held_of-held.ensures.items in
    let chains = λ (q : ℕ). ap (λ (gs : List (ℕ × ChainView PacketReport)). held_of gs q) gone ∙ back_held es rises name c.of.result c.of-in-Err.result items q in
    let gs_rise : Rises c.set-in-Err.new.self = subst Rises (sym gone) (back_rises es rises name c.of.result c.of-in-Err.result) in
    again_contents name c.self.inside.log c.add_set.new.self es c.set-in-Err.new.self c.self.inside.billing c.self.invariant gs_rise chains c.in-Err.ensures.err

pub returns-in-Err-clause-err : goal.returns-in-Err-clause-err
returns-in-Err-clause-err c =
    let name = c.self.inside.name in
    let es = c.self.inside.chains in
    let rises = c.self.invariant.rises in
    let held = c.held_of-held.result.now in
    let gone = back_set es rises name c.of.result c.of-in-Err.result c.set-2.new.self c.set-in-Err.new.self c.set-in-Err.result c.in_ok-set.ensures.ok c.set-in-Err.ensures.there c.set-in-Err.ensures.ok in
    let items : c.of-in-Err.result.items ≡ held_of es name =
    ap (λ (v : ChainView PacketReport). v.items) c.of-in-Err.ensures ∙ c.first.ensures ∙ ap (take (length held)) (c.in_ok-both.ensures ∙ c.in_ok-list.ensures) ∙ take-append_seam held c.args.fresh ∙ c.held_of-held.ensures.items in
    let chains = λ (q : ℕ). ap (λ (gs : List (ℕ × ChainView PacketReport)). held_of gs q) gone ∙ back_held es rises name c.of.result c.of-in-Err.result items q in
    let gs_rise : Rises c.set-in-Err.new.self = subst Rises (sym gone) (back_rises es rises name c.of.result c.of-in-Err.result) in
    let again = again_is name c.self.inside.log c.add_set.new.self es c.set-in-Err.new.self c.self.inside.billing c.self.invariant gs_rise chains c.in-Err.ensures.err in
    rw (← c.self.view_is) (λ i. record { replica = again i; billing = c.self.inside.billing })
