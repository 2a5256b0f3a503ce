use Rattle.std.proofs.Common.{◌∙◌, ℕ, ap}
use Rattle.tca_accounts.specs.Plans.{AccountPlan}
use Rattle.tca_gossip.specs.inside.Storage.{replica_of}
use Rattle.tca_gossip.proofs.Agreeing.{without_book}
use Rattle.tca_gossip.proofs.AtOnce.{refilled}
use Rattle.tca_gossip.proofs.RunsAtOnce.{runs_are, runs_replica, runs_within}
use Rattle.tca_gossip.proofs.contents.Contents.append_whole.Goals as goal

pub invariant_of-self-2 : goal.invariant_of-self-2
invariant_of-self-2 c =
    let name = c.self.inside.name in
    let log = c.self.inside.log in
    let es = c.self.inside.chains in
    let billing = c.self.inside.billing in
    let runs = c.args.runs.now in
    let chains = λ (q : ℕ). rw c.in_ok-chains.ensures at (c.in_ok-list.ensures.kept q) in
    let logs = rw (c.in_ok-list.ensures.list, c.in_ok-chains.ensures) at c.in_ok-add_list.ensures.ok in
    let good = rw (← c.self.view_is) at c.requires.good in
    let replica = runs_replica name log c.add_list.new.self es c.extend_all.new.chains billing c.self.invariant runs c.keys-rises.ensures.rises chains logs in
    let within = runs_within name log c.add_list.new.self es c.extend_all.new.chains billing c.self.invariant runs c.keys-rises.ensures.rises chains logs good in
    refilled name billing.plan c.add_list.new.self c.extend_all.new.chains c.release.new.self c.keys-rises.ensures.rises replica within c.release.ensures.plan (without_book c.add_list.new.self c.release.new.self c.release.ensures.kept)

pub returns-clause-ok : goal.returns-clause-ok
returns-clause-ok c =
    let name = c.self.inside.name in
    let chains = λ (q : ℕ). rw c.in_ok-chains.ensures at (c.in_ok-list.ensures.kept q) in
    let logs = rw (c.in_ok-list.ensures.list, c.in_ok-chains.ensures) at c.in_ok-add_list.ensures.ok in
    let plan = ap (λ (p : AccountPlan). replica_of name p c.add_list.new.self c.extend_all.new.chains) c.release.ensures.plan in
    rw (← c.self.view_is) (plan ∙ runs_are name c.self.inside.log c.add_list.new.self c.self.inside.chains c.extend_all.new.chains c.self.inside.billing c.self.invariant c.args.runs.now c.keys-rises.ensures.rises chains logs)
