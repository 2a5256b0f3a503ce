use Rattle.std.proofs.lemmas.Grind.{common_steps}
use Rattle.std.proofs.lemmas.Result.{err_from_is_err_and}
use Rattle.std.proofs.Common.{◌≡◌, ◌∙◌, ◌++◌, Option, ℕ, Some, None, false, true≢false, cond, nat_lt, length, sym, subst, ap, arith}
use Rattle.tca_report.specs.report.Reports.{report_cmp}
use Rattle.tca_report.proofs.lemmas.report.Order.{report_eq}
use Rattle.tca_join.specs.Sets.{in_order}
use Rattle.tca_join.specs.Chains.{chain_joined, differ_at, longer}
use Rattle.tca_join.specs.Faults.{IsJoinFault}
use Rattle.tca_join.specs.Maps.{clash_key, merged}
use Rattle.tca_join.specs.declared.fault.JoinFault.{JoinFault}
use Rattle.tca_log.specs.LogJoin.{log_full}
use Rattle.tca_gossip.specs.Replicas.{ReplicaView, chain_of, merge_clash, merge_full}
use Rattle.tca_gossip.specs.inside.Storage.{held_in, replica_of}
use Rattle.tca_gossip.proofs.Agreeing.{merged_agrees, neither, without_book}
use Rattle.tca_gossip.proofs.Clashing.{within_limit}
use Rattle.tca_gossip.proofs.Exact.{exact_report}
use Rattle.tca_gossip.proofs.Plains.{clash_held, held_merged}
use Rattle.tca_gossip.proofs.contents.Contents.merge.Goals as goal

pub joined_copy-requires : goal.joined_copy-requires
joined_copy-requires c =
    let es = c.self.inside.chains in
    let fs = c.other.inside.chains in
    let v : ReplicaView = replica_of c.self.inside.name c.self.inside.billing.plan c.self.inside.log es in
    let w : ReplicaView = replica_of c.other.inside.name c.other.inside.billing.plan c.other.inside.log fs in
    let none : merge_clash report_eq v w ≡ None = rw (← c.self.view_is, ← c.other.view_is) at (sym c.clash.ensures ∙ c.in_default.is) in
    clash_held report_eq es fs c.self.invariant.rises ∙ (neither (clash_key (differ_at report_eq) v.chains w.chains) (cond (nat_lt (length (chain_of v v.name)) (length (chain_of w v.name))) (Some v.name) None) none).0

pub returns-in_err-chains-clause-fault : goal.returns-in_err-chains-clause-fault
returns-in_err-chains-clause-fault c =
    let none : merge_clash report_eq c.args.self.now.replica c.args.other.now.replica ≡ None = sym c.clash.ensures ∙ c.in_default.is in
    let within : log_full c.self.inside.log c.other.inside.log ≡ false = within_limit (log_full c.self.inside.log c.other.inside.log) (sym c.refusal.ensures ∙ c.in_default-refusal.is) in
    let all : merge_full c.args.self.now.replica c.args.other.now.replica ≡ false = rw (← c.self.view_is, ← c.other.view_is) within in
    let p = err_from_is_err_and c.from_residual.result c.from_residual.ensures.1 in
    rw (p.1, p.2) (subst (λ (e : JoinFault). IsJoinFault (merge_clash report_eq c.args.self.now.replica c.args.other.now.replica) (merge_full c.args.self.now.replica c.args.other.now.replica) e) (sym c.in_err-chains.ensures.fault) (none, all))

pub returns-in_err-join_from-clause-fault : goal.returns-in_err-join_from-clause-fault
returns-in_err-join_from-clause-fault c =
    let none : merge_clash report_eq c.args.self.now.replica c.args.other.now.replica ≡ None = sym c.clash.ensures ∙ c.in_default.is in
    let fault : IsJoinFault None (merge_full c.args.self.now.replica c.args.other.now.replica) c.in_err-join_from.field-0.0 = rw (← c.self.view_is, ← c.other.view_is) c.in_err-join_from.ensures.fault in
    let p = err_from_is_err_and c.from_residual-in_err-join_from.result c.from_residual-in_err-join_from.ensures.1 in
    rw (p.1, p.2) (subst (λ (o : Option ℕ). IsJoinFault o (merge_full c.args.self.now.replica c.args.other.now.replica) c.in_err-join_from.field-0.0) (sym none) fault)

pub invariant_of-self : goal.invariant_of-self
invariant_of-self c = rw c.in_err-join_from.ensures.err c.self.invariant

pub invariant_of-self-2 : goal.invariant_of-self-2
invariant_of-self-2 c =
    let es = c.self.inside.chains in
    let fs = c.other.inside.chains in
    let v : ReplicaView = replica_of c.self.inside.name c.self.inside.billing.plan c.self.inside.log es in
    let w : ReplicaView = replica_of c.other.inside.name c.other.inside.billing.plan c.other.inside.log fs in
    let none : merge_clash report_eq v w ≡ None = rw (← c.self.view_is, ← c.other.view_is) at (sym c.clash.ensures ∙ c.in_default.is) in
    let chains : c.in_ok-chains.chains ≡ merged chain_joined es fs = c.in_ok-chains.ensures.all in
    let log : c.join_from.new.self ≡ in_order report_cmp (c.self.inside.log ++ c.other.inside.log) = c.in_ok-join_from.ensures.ok in
    rw (chains, log) (merged_agrees report_eq exact_report c.self.inside.name c.other.inside.name c.self.inside.log c.other.inside.log es fs c.self.inside.billing c.other.inside.billing c.release.new.self c.self.invariant c.other.invariant none c.release.ensures.plan (without_book _ c.release.new.self c.release.ensures.kept))

pub returns-clause-ok : goal.returns-clause-ok
returns-clause-ok c =
    let es = c.self.inside.chains in
    let fs = c.other.inside.chains in
    let chains : c.in_ok-chains.chains ≡ merged chain_joined es fs = c.in_ok-chains.ensures.all in
    let log : c.join_from.new.self ≡ in_order report_cmp (c.self.inside.log ++ c.other.inside.log) = c.in_ok-join_from.ensures.ok in
    let held : held_in c.in_ok-chains.chains ≡ merged longer (held_in es) (held_in fs) = ap held_in chains ∙ held_merged es fs c.self.invariant.rises c.other.invariant.rises in
    rw (← c.self.view_is, ← c.other.view_is) (λ i. record { name = c.self.inside.name; plan = c.release.ensures.plan i; log = log i; chains = held i })

pub returns-in-Some-clause-err : goal.returns-in-Some-clause-err
returns-in-Some-clause-err c = grind (arith, common_steps)

pub returns-in-Some-clause-fault : goal.returns-in-Some-clause-fault
returns-in-Some-clause-fault c = sym c.clash.ensures ∙ c.in-Some.is

pub returns-in-Some-refusal-clause-err : goal.returns-in-Some-refusal-clause-err
returns-in-Some-refusal-clause-err c = grind (arith, common_steps)

pub returns-in-Some-refusal-clause-fault : goal.returns-in-Some-refusal-clause-fault
returns-in-Some-refusal-clause-fault c = grind (arith, common_steps)

pub returns-in_err-chains-clause-err : goal.returns-in_err-chains-clause-err
returns-in_err-chains-clause-err c = grind (arith, common_steps)

pub returns-in_err-join_from-clause-err : goal.returns-in_err-join_from-clause-err
returns-in_err-join_from-clause-err c = grind (arith, common_steps)

pub returns-clause-resumed : goal.returns-clause-resumed
returns-clause-resumed c = λ kept. absurd (true≢false (sym kept ∙ c.release.ensures.kept))

pub returns-clause-compatible : goal.returns-clause-compatible
returns-clause-compatible c = sym c.clash.ensures ∙ c.in_default.is

pub returns-clause-within : goal.returns-clause-within
returns-clause-within c =
    let within : log_full c.self.inside.log c.other.inside.log ≡ false = within_limit (log_full c.self.inside.log c.other.inside.log) (sym c.refusal.ensures ∙ c.in_default-refusal.is) in
    rw (← c.self.view_is, ← c.other.view_is) within
