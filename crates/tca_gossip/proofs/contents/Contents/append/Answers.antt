use Rattle.std.proofs.Common.{◌≡◌, ◌<◌, ◌∙◌, false, length, refl, subst, arith}
use Rattle.tca_report.specs.report.Reports.{report_cmp}
use Rattle.tca_join.specs.Sets.{has}
use Rattle.tca_gossip.specs.Replicas.{ReplicaView}
use Rattle.tca_gossip.specs.inside.Storage.{replica_of}
use Rattle.tca_gossip.proofs.Plains.{chain_held}
use Rattle.tca_gossip.proofs.Agreeing.{room_agrees, report_agrees, few_reports}
use Rattle.tca_gossip.proofs.contents.Contents.append.Goals as goal
use Rattle.tca_gossip.proofs.contents.Contents.append.Goals.{else-not-held-via-then-not-held+else-len-ge-LIMIT, else-not-held-via-else-not-held}

pub invariant_of-self : goal.invariant_of-self
invariant_of-self c =
    room_agrees c.self.inside.name c.self.inside.log c.self.inside.chains c.self.inside.chains c.self.inside.billing c.ready.new.self c.self.invariant c.self.invariant.rises refl c.ready.ensures.plan c.ready.ensures.bills

pub invariant_of-self-in_err-reserve : goal.invariant_of-self-in_err-reserve
invariant_of-self-in_err-reserve c =
    room_agrees c.self.inside.name c.self.inside.log c.self.inside.chains c.reserve.new.chains c.self.inside.billing c.ready.new.self c.self.invariant c.reserve.ensures.rises c.reserve.ensures.held c.ready.ensures.plan c.ready.ensures.bills

pub invariant_of-self-in_err-added : goal.invariant_of-self-in_err-added
invariant_of-self-in_err-added c =
    rw c.in_err-added.ensures.err (room_agrees c.self.inside.name c.self.inside.log c.self.inside.chains c.reserve.new.chains c.self.inside.billing c.ready.new.self c.self.invariant c.reserve.ensures.rises c.reserve.ensures.held c.ready.ensures.plan c.ready.ensures.bills)

pub push-requires-clause-few : goal.push-requires-clause-few
push-requires-clause-few c =
    let v : ReplicaView = replica_of c.self.inside.name c.self.inside.billing.plan c.self.inside.log c.self.inside.chains in
    let room : has report_cmp c.self.inside.log c.args.report ≡ false → length c.self.inside.log < 4194304 = λ none. elim c.else-not-held.branch [
      | else-not-held-via-then-not-held+else-len-ge-LIMIT w ↦ omega (arith, w.if-len-ge-LIMIT.false, w.len.ensures.length)
      | else-not-held-via-else-not-held w ↦ absurd (cc)
    ] in
    let own = rw (← c.self.view_is) at c.requires.own in
    let other = rw (← c.self.view_is) at c.requires.other in
    rw c.reserve.ensures.kept (subst (λ l. length l < 4194304) (chain_held c.self.inside.chains c.args.origin c.self.invariant.rises) (few_reports v c.args.origin c.args.report c.self.invariant.within own other room))

pub invariant_of-self-2 : goal.invariant_of-self-2
invariant_of-self-2 c =
    let own = rw (← c.self.view_is) at c.requires.own in
    rw c.in_ok-added.ensures.ok (report_agrees c.self.inside.name c.self.inside.log c.self.inside.chains c.push.new.chains c.self.inside.billing c.apply.new.self c.args.origin c.args.report c.self.invariant c.push.ensures.rises (rw c.reserve.ensures.held at c.push.ensures.held)
    (c.apply.ensures.plan ∙ c.ready.ensures.plan)
    (c.apply.ensures.bills c.self.inside.log c.reports-rises.ensures.rises c.ready.ensures.bills c.in_ok-added.ensures.answer)
    own)
