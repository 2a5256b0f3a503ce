use Rattle.std.proofs.lemmas.Grind.{common_steps}
use Rattle.std.proofs.lemmas.Result.{err_from_is_err_and}
use Rattle.std.proofs.Common.{◌≡◌, ◌∙◌, ◌++◌, ◌∷◌, [], Err, rules, ap, inr, arith}
use Rattle.tca_gossip.specs.Replicas.{ReplicaView}
use Rattle.tca_commands.proofs.AbsorbLaws.{last_plan}
use Rattle.tca_commands.proofs.ReadLaws.{all_sound}
use Rattle.tca_commands.proofs.replicated.bill_replicas.Goals as goal
use Rattle.tca_accounts.specs.Documents.{IsPlanOf}

pub returns-in_err-reports-clause-unmade : goal.returns-in_err-reports-clause-unmade
returns-in_err-reports-clause-unmade g c =
    let named : IsPlanOf c.args.plan.now c.in_ok-plan.plan = record { utf8 = c.in_ok-plan.ensures.utf8; named = c.in_ok-plan.ensures.ok } in
    let is : c.from_residual-in_err-reports.result ≡ Err c.in_err-reports.field-0.0 = search rules in
    rw is (inr (c.in_ok-plan.plan, named, inr (inr (all_sound _ _ c.in_ok-all.ensures.read.noted, c.in_err-reports.ensures.refused))))

pub returns-in_err-statement-clause-unmade : goal.returns-in_err-statement-clause-unmade
returns-in_err-statement-clause-unmade g c =
    let named : IsPlanOf c.args.plan.now c.in_ok-plan.plan = record { utf8 = c.in_ok-plan.ensures.utf8; named = c.in_ok-plan.ensures.ok } in
    let p = err_from_is_err_and c.from_residual-in_err-statement.result c.from_residual-in_err-statement.ensures.1 in
    rw (p.1, p.2) (inr (c.in_ok-plan.plan, named, inr (inr (all_sound _ _ c.in_ok-all.ensures.read.noted, c.in_err-statement.ensures.refused))))

pub returns-in_err-plan-clause-stated : goal.returns-in_err-plan-clause-stated
returns-in_err-plan-clause-stated g c = grind (arith, common_steps)

pub returns-in_err-plan-clause-union : goal.returns-in_err-plan-clause-union
returns-in_err-plan-clause-union g c = grind (arith, common_steps)

pub returns-in_err-plan-clause-noted : goal.returns-in_err-plan-clause-noted
returns-in_err-plan-clause-noted g c = grind (arith, common_steps)

pub returns-in_err-plan-clause-rises : goal.returns-in_err-plan-clause-rises
returns-in_err-plan-clause-rises g c = grind (arith, common_steps)

pub returns-in_err-plan-clause-limit : goal.returns-in_err-plan-clause-limit
returns-in_err-plan-clause-limit g c = grind (arith, common_steps)

pub returns-in_err-mine-clause-stated : goal.returns-in_err-mine-clause-stated
returns-in_err-mine-clause-stated g c = grind (arith, common_steps)

pub returns-in_err-mine-clause-union : goal.returns-in_err-mine-clause-union
returns-in_err-mine-clause-union g c = grind (arith, common_steps)

pub returns-in_err-mine-clause-noted : goal.returns-in_err-mine-clause-noted
returns-in_err-mine-clause-noted g c = grind (arith, common_steps)

pub returns-in_err-mine-clause-rises : goal.returns-in_err-mine-clause-rises
returns-in_err-mine-clause-rises g c = grind (arith, common_steps)

pub returns-in_err-mine-clause-limit : goal.returns-in_err-mine-clause-limit
returns-in_err-mine-clause-limit g c = grind (arith, common_steps)

pub returns-in_err-mine-clause-unmade : goal.returns-in_err-mine-clause-unmade
returns-in_err-mine-clause-unmade g c = grind (arith, common_steps)

pub run_replicas-requires-clause-name : goal.run_replicas-requires-clause-name
run_replicas-requires-clause-name g c κs within = grind (arith, common_steps)

pub run_replicas-requires-clause-parts : goal.run_replicas-requires-clause-parts
run_replicas-requires-clause-parts g c κs within = grind (arith, common_steps)

pub run_replicas-requires-clause-called : goal.run_replicas-requires-clause-called
run_replicas-requires-clause-called g c κs within = grind (arith, common_steps)

pub run_replicas-requires-clause-plan : goal.run_replicas-requires-clause-plan
run_replicas-requires-clause-plan g c κs within = grind (arith, common_steps)

pub run_replicas-requires-clause-same : goal.run_replicas-requires-clause-same
run_replicas-requires-clause-same g c κs within = grind (arith, common_steps)

pub run_replicas-requires-clause-limits : goal.run_replicas-requires-clause-limits
run_replicas-requires-clause-limits g c κs within = grind (arith, common_steps)

pub returns-in_err-all-clause-stated : goal.returns-in_err-all-clause-stated
returns-in_err-all-clause-stated g c = grind (arith, common_steps)

pub returns-in_err-all-clause-union : goal.returns-in_err-all-clause-union
returns-in_err-all-clause-union g c = grind (arith, common_steps)

pub returns-in_err-all-clause-noted : goal.returns-in_err-all-clause-noted
returns-in_err-all-clause-noted g c = grind (arith, common_steps)

pub returns-in_err-all-clause-rises : goal.returns-in_err-all-clause-rises
returns-in_err-all-clause-rises g c = grind (arith, common_steps)

pub returns-in_err-all-clause-limit : goal.returns-in_err-all-clause-limit
returns-in_err-all-clause-limit g c = grind (arith, common_steps)

pub unreachable-requires : goal.unreachable-requires
unreachable-requires g c = grind (arith, common_steps)

pub unreachable-unreachable : goal.unreachable-unreachable
unreachable-unreachable g c = grind (arith, common_steps)

pub returns-in_err-reports-clause-stated : goal.returns-in_err-reports-clause-stated
returns-in_err-reports-clause-stated g c = grind (arith, common_steps)

pub returns-in_err-reports-clause-union : goal.returns-in_err-reports-clause-union
returns-in_err-reports-clause-union g c = grind (arith, common_steps)

pub returns-in_err-reports-clause-noted : goal.returns-in_err-reports-clause-noted
returns-in_err-reports-clause-noted g c = grind (arith, common_steps)

pub returns-in_err-reports-clause-rises : goal.returns-in_err-reports-clause-rises
returns-in_err-reports-clause-rises g c = grind (arith, common_steps)

pub returns-in_err-reports-clause-limit : goal.returns-in_err-reports-clause-limit
returns-in_err-reports-clause-limit g c = grind (arith, common_steps)

pub statement_of-requires : goal.statement_of-requires
statement_of-requires g c =
    let all = c.in_ok-all.all.items in
    let last : all ≡ c.pop.new.self.items ++ c.in-Some.first ∷ [] = search rules in
    ap (λ (v : ReplicaView). v.plan) c.without_journal-replica.ensures ∙ last_plan _ _ all c.pop.new.self.items c.in-Some.first c.in_ok-all.ensures.joined last ∙ search rules

pub returns-in_err-statement-clause-stated : goal.returns-in_err-statement-clause-stated
returns-in_err-statement-clause-stated g c = let p = err_from_is_err_and c.from_residual-in_err-statement.result c.from_residual-in_err-statement.ensures.1 in rw p.1 tt

pub returns-in_err-statement-clause-union : goal.returns-in_err-statement-clause-union
returns-in_err-statement-clause-union g c = let p = err_from_is_err_and c.from_residual-in_err-statement.result c.from_residual-in_err-statement.ensures.1 in rw p.1 tt

pub returns-in_err-statement-clause-noted : goal.returns-in_err-statement-clause-noted
returns-in_err-statement-clause-noted g c = let p = err_from_is_err_and c.from_residual-in_err-statement.result c.from_residual-in_err-statement.ensures.1 in rw p.1 tt

pub returns-in_err-statement-clause-rises : goal.returns-in_err-statement-clause-rises
returns-in_err-statement-clause-rises g c = let p = err_from_is_err_and c.from_residual-in_err-statement.result c.from_residual-in_err-statement.ensures.1 in rw p.1 tt

pub returns-in_err-statement-clause-limit : goal.returns-in_err-statement-clause-limit
returns-in_err-statement-clause-limit g c = let p = err_from_is_err_and c.from_residual-in_err-statement.result c.from_residual-in_err-statement.ensures.1 in rw p.1 tt

pub returns-clause-stated : goal.returns-clause-stated
returns-clause-stated g c = grind (arith, common_steps)

pub returns-clause-union : goal.returns-clause-union
returns-clause-union g c = grind (arith, common_steps)

pub returns-clause-noted : goal.returns-clause-noted
returns-clause-noted g c = grind (arith, common_steps)

pub returns-clause-rises : goal.returns-clause-rises
returns-clause-rises g c = grind (arith, common_steps)

pub returns-clause-limit : goal.returns-clause-limit
returns-clause-limit g c = grind (arith, common_steps)
