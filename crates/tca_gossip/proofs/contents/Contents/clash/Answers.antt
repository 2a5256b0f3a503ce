use Rattle.std.proofs.Common.{◌≡◌, ℕ, ◌∙◌, Some, None, Bool, true, false, cond, nat_lt, length, refl}
use Rattle.std.specs.Bool.{then_some}
use Rattle.tca_report.specs.contracts.report.ReportPartialEq.TheImpl as report_eq
use Rattle.tca_gossip.specs.Replicas.{chain_of, least_of}
use Rattle.tca_gossip.specs.inside.Storage.{replica_of}
use Rattle.tca_gossip.proofs.Clashing.{named}
use Rattle.tca_gossip.proofs.contents.Contents.clash.Goals as goal

then_is : (b : Bool) (n : ℕ) → then_some b n ≡ cond b (Some n) None
then_is true n = refl
then_is false n = refl

pub returns : goal.returns
returns c =
    let own : c.chain.result.now ≡ chain_of (replica_of c.self.inside.name c.self.inside.billing.plan c.self.inside.log c.self.inside.chains) c.self.inside.name = rw (← c.self.view_is) at c.chain.ensures.items in
    let theirs : c.chain-2.result.now ≡ chain_of (replica_of c.other.inside.name c.other.inside.billing.plan c.other.inside.log c.other.inside.chains) c.self.inside.name = rw (← c.other.view_is) at c.chain-2.ensures.items in
    let clash = c.origin_of.ensures ∙ named report_eq.ghosts.eq c.self.inside.chains c.other.inside.chains c.self.invariant.rises c.refusal.result c.refusal.ensures in
    let ahead = c.then_some.ensures ∙ then_is (nat_lt (length c.chain.result.now) (length c.chain-2.result.now)) c.self.inside.name ∙ (λ i. cond (nat_lt (length (own i)) (length (theirs i))) (Some c.self.inside.name) None) in
    rw (← c.self.view_is, ← c.other.view_is) (c.least.ensures ∙ (λ i. least_of (clash i) (ahead i)))
