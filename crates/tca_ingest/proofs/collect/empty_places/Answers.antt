use Rattle.std.proofs.lemmas.Grind.{common_steps}
use Rattle.std.proofs.Common.{None, sym, subst, take, ◌+◌, arith}
use Rattle.tca_report.specs.input.Inputs.{input_view}
use Rattle.tca_ingest.specs.Works.{IsResultAt, AreResultsAt}
use Rattle.tca_ingest.proofs.Collecting.{zip_any}
use Rattle.tca_ingest.proofs.collect.empty_places.Goals as goal

pub loop-input-preserved : goal.loop-input-preserved
loop-input-preserved c =
    let l = c.loop-input in
    subst (AreResultsAt (take (l.input-index + 1) c.args.inputs.now)) (sym c.in_ok-push.ensures.items)
    (zip_any (λ input place. IsResultAt (input_view input.now) place) c.args.inputs.now l.input-index l.places.items None (λ input. tt) c.loop-input-test.true l.invariant)

pub returns-in_err-places : goal.returns-in_err-places
returns-in_err-places c = grind (arith, common_steps)

pub loop-input-init : goal.loop-input-init
loop-input-init c = grind (arith, common_steps)

pub offset_bounds-inputs-input-index : goal.offset_bounds-inputs-input-index
offset_bounds-inputs-input-index c = grind (arith, common_steps)

pub returns-in_err-push : goal.returns-in_err-push
returns-in_err-push c = grind (arith, common_steps)

pub returns : goal.returns
returns c = grind (arith, common_steps)
