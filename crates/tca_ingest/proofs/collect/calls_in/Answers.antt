use Rattle.tca_ingest.specs.Works.{all_calls}
use Rattle.std.proofs.lemmas.Grind.{common_steps}
use Rattle.std.proofs.Common.{◌≡◌, subst, arith}
use Rattle.std.specs.List.{AllByRecursion}
use Rattle.tca_ingest.specs.Entries.{pass_of}
use Rattle.tca_ingest.specs.Passes.{PassView}
use Rattle.tca_ingest.proofs.Collecting.{all_more, calls_more}
use Rattle.tca_ingest.proofs.collect.calls_in.Goals as goal

pub loop-pass-preserved : goal.loop-pass-preserved
loop-pass-preserved g c =
    let Own : PassView → Type 0 = λ p. AllByRecursion (λ e. pass_of e ≡ p.number) p.calls in (
      calls_more c.args.passes.now c.loop-pass.pass-index c.pass-item.result _ _ _ c.loop-pass-test.true c.pass-item.is c.loop-pass.invariant.0 c.in_ok-add_calls.ensures c.calls.ensures.calls,
      all_more Own c.args.passes.now c.loop-pass.pass-index c.pass-item.result c.loop-pass-test.true c.loop-pass.invariant.1 (subst Own c.pass-item.is c.calls.ensures.whose),
    )

pub loop-pass-init : goal.loop-pass-init
unfolding all_calls
loop-pass-init g c = grind (arith, common_steps)

pub offset_bounds-passes-pass-index : goal.offset_bounds-passes-pass-index
unfolding all_calls
offset_bounds-passes-pass-index g c = grind (arith, common_steps)

pub returns-in_err-add_calls-clause-calls : goal.returns-in_err-add_calls-clause-calls
unfolding all_calls
returns-in_err-add_calls-clause-calls g c = grind (arith, common_steps)

pub returns-in_err-add_calls-clause-own : goal.returns-in_err-add_calls-clause-own
unfolding all_calls
returns-in_err-add_calls-clause-own g c = grind (arith, common_steps)

pub returns-clause-calls : goal.returns-clause-calls
unfolding all_calls
returns-clause-calls g c = grind (arith, common_steps)

pub returns-clause-own : goal.returns-clause-own
unfolding all_calls
returns-clause-own g c = grind (arith, common_steps)
