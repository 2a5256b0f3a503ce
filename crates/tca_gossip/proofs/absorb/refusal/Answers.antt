use Rattle.std.proofs.Common.{List, ap, ◌∙◌}
use Rattle.tca_report.specs.report.Reports.{PacketReport}
use Rattle.tca_gossip.specs.inside.Storage.{held_of}
use Rattle.tca_gossip.specs.Runs.{fault_of}
use Rattle.tca_gossip.proofs.AbsorbSteps.{fault_some, fault_none, fault_ends, runs_step}
use Rattle.tca_gossip.proofs.absorb.refusal.Goals as goal

pub returns-in-Some-clause-fault : goal.returns-in-Some-clause-fault
returns-in-Some-clause-fault c =
    let held = c.held_of-chain.ensures.items ∙ ap (held_of c.args.chains.now) c.origin.ensures.value in
    fault_some c.args.name (held_of c.args.chains.now) c.args.runs.now c.loop-run.run-index c.run-item.result c.loop-run-test.true c.run-item.is c.in-Some.fault c.in-Some.ensures.refused c.loop-run.invariant.so_far
    (c.in-Some.ensures.fault ∙ ap (λ (l : List PacketReport). fault_of c.args.name (λ _. l) c.run-item.result) held)

pub loop-run-preserved : goal.loop-run-preserved
loop-run-preserved c =
    let held = c.held_of-chain.ensures.items ∙ ap (held_of c.args.chains.now) c.origin.ensures.value in
    record {
      so_far = fault_none c.args.name (held_of c.args.chains.now) c.args.runs.now c.loop-run.run-index c.run-item.result c.loop-run-test.true c.run-item.is c.loop-run.invariant.so_far
          (c.in-None.ensures.fault ∙ ap (λ (l : List PacketReport). fault_of c.args.name (λ _. l) c.run-item.result) held);
      runs = runs_step c.args.name (held_of c.args.chains.now) c.args.runs.now c.loop-run.run-index c.run-item.result c.loop-run-test.true c.run-item.is c.loop-run.invariant.runs;
    }

pub returns-clause-fault : goal.returns-clause-fault
returns-clause-fault c = fault_ends c.args.name (held_of c.args.chains.now) c.args.runs.now c.loop-run.run-index c.loop-run-test.false c.loop-run.invariant.so_far
