use Rattle.std.proofs.lemmas.Grind.{common_steps}
use Rattle.std.proofs.Common.{arith, ◌∙◌}
use Rattle.tca_gossip.proofs.Running.{run_on}
use Rattle.tca_gossip.proofs.world.World.run.Goals as goal

pub loop-step-preserved : goal.loop-step-preserved
loop-step-preserved c = record {
  run = λ m coupled. run_on m c.args.steps.now c.loop-step.step-index c.step-item.result c.loop-step.replies.items c.push_reserved.new.self.items c.step-reply.result c.loop-step.self c.step-reply.new.self c.loop-step-test.true c.step-item.is c.push_reserved.ensures.items (c.loop-step.invariant.run m coupled) c.step-reply.ensures.steps;
  plan = c.step-reply.ensures.plan ∙ c.loop-step.invariant.plan;
  count = omega arith;
  room = omega arith;
}

pub same-self : goal.same-self
same-self c = grind (arith, common_steps)

pub returns-in_err-replies-clause-run : goal.returns-in_err-replies-clause-run
returns-in_err-replies-clause-run c = grind (arith, common_steps)

pub returns-in_err-replies-clause-err : goal.returns-in_err-replies-clause-err
returns-in_err-replies-clause-err c = grind (arith, common_steps)

pub returns-in_err-replies-clause-some : goal.returns-in_err-replies-clause-some
returns-in_err-replies-clause-some c = grind (arith, common_steps)

pub same-self-2 : goal.same-self-2
same-self-2 c = grind (arith, common_steps)

pub loop-step-init : goal.loop-step-init
loop-step-init c = grind (arith, common_steps)

pub offset_bounds-steps-step-index : goal.offset_bounds-steps-step-index
offset_bounds-steps-step-index c = grind (arith, common_steps)

pub push_reserved-requires : goal.push_reserved-requires
push_reserved-requires c = grind (arith, common_steps)

pub returns-clause-run : goal.returns-clause-run
returns-clause-run c = grind (arith, common_steps)
