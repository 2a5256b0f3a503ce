use Rattle.std.proofs.lemmas.Result.{IfOk-weaker, on_ok_weaker}
use Rattle.std.proofs.Common.{◌≡◌, ◌++◌, ◌∙◌, [], List, ap, arith}
use Rattle.tca_report.specs.report.Reports.{PacketReport}
use Rattle.tca_gossip.specs.Replicas.{reports_in}
use Rattle.tca_gossip.specs.Runs.{rest_of, rests}
use Rattle.tca_gossip.specs.inside.Storage.{held_of}
use Rattle.tca_gossip.proofs.AbsorbSteps.{limit_at}
use Rattle.tca_gossip.proofs.RunsAtOnce.{kept_first, list_first, kept_next, list_next, kept_last, list_last, kept_one, list_one, on_ok_always}
use Rattle.tca_gossip.proofs.at_once.extend_all.Goals as goal

pub loop-run-init : goal.loop-run-init
loop-run-init c = record { kept_is = kept_first c.args.chains.now (held_of c.args.chains.now); list_is = c.new-list.ensures.items ∙ list_first [] (held_of c.args.chains.now) }

pub loop-run-preserved : goal.loop-run-preserved
loop-run-preserved c =
    let es = c.args.chains.now in
    let fs = c.loop-run.chains in
    let runs = c.args.runs.now in
    let before = c.loop-run.list.items in
    let list = c.in_ok-extend_from_slice.ensures.items ∙ ap (λ (l : List PacketReport). before ++ l) (c.as_slice.ensures ∙ c.in_ok-rest.ensures.rest) in
    record {
      kept_is = kept_next es fs runs c.loop-run.run-index c.run-item.result c.loop-run-test.true c.run-item.is c.requires c.loop-run.invariant.kept_is c.extend_one-in-loop-run.new.chains c.in_ok-rest.ensures.kept;
      list_is = list_next es fs runs c.loop-run.run-index c.run-item.result c.loop-run-test.true c.run-item.is c.requires c.loop-run.invariant.kept_is [] before c.extend_from_slice.new.self.items c.loop-run.invariant.list_is list;
    }

pub returns-clause-kept : goal.returns-clause-kept
returns-clause-kept c = on_ok_always c.of.result (kept_last c.args.chains.now c.loop-run.chains (held_of c.args.chains.now) c.args.runs.now c.loop-run.run-index c.loop-run-test.false c.loop-run.invariant.kept_is)

pub returns-clause-list : goal.returns-clause-list
returns-clause-list c =
    let all = list_last [] c.loop-run.list.items (held_of c.args.chains.now) c.args.runs.now c.loop-run.run-index c.loop-run-test.false c.loop-run.invariant.list_is in
    rw (← all) c.of.ensures

pub extend_one-requires-in-loop-run : goal.extend_one-requires-in-loop-run
extend_one-requires-in-loop-run c = limit_at c.args.runs.now c.loop-run.run-index c.run-item.result c.requires c.loop-run-test.true c.run-item.is

pub returns-then-runs-eq1-clause-kept : goal.returns-then-runs-eq1-clause-kept
returns-then-runs-eq1-clause-kept c =
    on_ok_weaker c.extend_one.result (kept_one c.args.chains.now c.args.runs.now c.index-runs-0.result (omega (arith, c.if-runs-eq1.true)) c.index-runs-0.is c.requires c.extend_one.new.chains) c.extend_one.ensures.kept

pub returns-then-runs-eq1-clause-list : goal.returns-then-runs-eq1-clause-list
returns-then-runs-eq1-clause-list c =
    let held = held_of c.args.chains.now in
    IfOk-weaker c.extend_one.result (λ (rest : List PacketReport). rest ≡ rest_of held c.index-runs-0.result) (λ (list : List PacketReport). list ≡ reports_in (rests held c.args.runs.now))
    (list_one c.args.chains.now c.args.runs.now c.index-runs-0.result (omega (arith, c.if-runs-eq1.true)) c.index-runs-0.is c.requires) c.extend_one.ensures.rest
