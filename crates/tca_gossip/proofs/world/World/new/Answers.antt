use Rattle.std.proofs.Common.{get_or, sym, ap, ◌∙◌, subst}
use Rattle.tca_gossip.specs.Machines.{new_machine}
use Rattle.tca_gossip.specs.Coupling.{IsCoupled, new_world}
use Rattle.tca_gossip.proofs.Starts.{coupled_opened}
use Rattle.tca_gossip.proofs.Naming.{names_more, all_names, any_default}
use Rattle.tca_gossip.proofs.world.World.new.Goals as goal

pub loop-name-preserved : goal.loop-name-preserved
loop-name-preserved c =
    let names = c.args.names.now in
    let i = c.loop-name.name-index in
    let is = any_default names i 0 (get_or names i 0) c.loop-name-test.true in
    names_more c.args.plan.now names i (get_or names i 0) c.loop-name-test.true is c.loop-name.world c.open.new.self c.loop-name.invariant c.in_ok-open.ensures

pub returns-clause-empty : goal.returns-clause-empty
returns-clause-empty c = c.loop-name.invariant ∙ ap (new_world c.args.plan.now) (all_names c.args.names.now c.loop-name.name-index c.loop-name-test.false)

pub returns-clause-starts : goal.returns-clause-starts
returns-clause-starts c =
    let apart = c.are_distinct.ensures.0 c.if-not-are_distinct.false in
    let all = c.loop-name.invariant ∙ ap (new_world c.args.plan.now) (all_names c.args.names.now c.loop-name.name-index c.loop-name-test.false) in
    subst (IsCoupled (new_machine c.args.names.now)) (sym all) (coupled_opened c.args.plan.now c.args.names.now apart)
