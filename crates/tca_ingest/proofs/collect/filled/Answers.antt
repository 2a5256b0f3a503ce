use Rattle.std.proofs.lemmas.Grind.{common_steps}
use Rattle.std.proofs.Common.{◌≡◌, Some, length, take, rules, sym, ◌∙◌, subst, ◌++◌, ◌∷◌, [], arith}
use Rattle.std.specs.List.{AllZip}
use Rattle.std.proofs.lemmas.Iterator.Adapters.{YieldsList-from_vec}
use Rattle.std.proofs.lemmas.Iterator.Consumers.{YieldsList-end, YieldsList-so_far, YieldsList-turn}
use Rattle.std.proofs.lemmas.List.{map-id}
use Rattle.tca_report.specs.input.Inputs.{input_view}
use Rattle.tca_ingest.specs.Works.{IsResult, IsResultAt, AreNumbered}
use Rattle.tca_ingest.specs.declared.job.Done.{Done}
use Rattle.tca_ingest.proofs.Collecting.{numbered_push, without_result, zip_length, zip_push, zip_through}
use Rattle.tca_ingest.proofs.collect.filled.Goals as goal

pub loop-place-preserved : goal.loop-place-preserved
loop-place-preserved c =
    let l = c.loop-place in
    let one : Done = record { job = c.number_of-job.result; result = c.in-Some-place.result } in
    let road = YieldsList-from_vec {s = c.into_iter-place-iterator.result} c.args.places.items (search rules) (search rules) in
    let low = (YieldsList-turn road l.yielded l.place-iterator l.yielded_by c.next.result c.next.new.self c.in-Some.place c.in-Some.is c.next.ensures.steps).0 in
    let places = zip_length (λ input place. IsResultAt (input_view input.now) place) c.args.inputs.now c.args.places.items c.requires.results in
    let so_far = zip_length (λ place d. place ≡ Some d.result) l.yielded l.done.items l.invariant.2 in
    let counted : c.len-in-loop-place.result ≡ length l.done.items = search rules in
    let number : c.number_of-job.result ≡ length l.done.items = c.number_of-job.ensures (omega (arith, counted, low, places, so_far, c.requires.count)) ∙ counted in (
      tt,
      tt,
      subst (AllZip (λ place d. place ≡ Some d.result) (l.yielded ++ c.in-Some.place ∷ [])) (sym c.in_ok-put.ensures.added)
          (zip_push (λ place d. place ≡ Some d.result) l.yielded l.done.items c.in-Some.place one l.invariant.2 c.in-Some-place.is),
      subst AreNumbered (sym c.in_ok-put.ensures.added) (numbered_push 0 l.done.items one l.invariant.3 (number ∙ omega (arith))),
    )

pub returns-in_default-clause-missing : goal.returns-in_default-clause-missing
returns-in_default-clause-missing c =
    let l = c.loop-place in
    let places = c.args.places.items in
    let road = YieldsList-from_vec {s = c.into_iter-place-iterator.result} places (search rules) (search rules) in
    let turn = YieldsList-turn road l.yielded l.place-iterator l.yielded_by c.next.result c.next.new.self c.in-Some.place c.in-Some.is c.next.ensures.steps in
    let low = turn.0 in
    let front : l.yielded ≡ take (length l.yielded) places = sym (map-id l.yielded) ∙ YieldsList-so_far road l.yielded l.place-iterator l.yielded_by in
    let among = zip_length (λ input place. IsResultAt (input_view input.now) place) c.args.inputs.now places c.requires.results in
    let so_far = zip_length (λ place d. place ≡ Some d.result) l.yielded l.done.items l.invariant.2 in
    let counted : c.len-in-loop-place.result ≡ length l.done.items = search rules in
    let number : c.number_of-job.result ≡ length l.done.items = c.number_of-job.ensures (omega (arith, counted, low, among, so_far, c.requires.count)) ∙ counted in
    without_result places l.yielded l.done.items c.in-Some.place c.number_of-job.result l.invariant.2 front low turn.1 c.in_default.is number

pub returns-clause-done : goal.returns-clause-done
returns-clause-done c =
    let road = YieldsList-from_vec {s = c.into_iter-place-iterator.result} c.args.places.items (search rules) (search rules) in
    let whole : c.loop-place.yielded ≡ c.args.places.items = sym (map-id c.loop-place.yielded) ∙ (YieldsList-end road c.loop-place.yielded c.loop-place.place-iterator c.loop-place.yielded_by c.next.result c.next.new.self c.in-None.is c.next.ensures.steps).0 in
    zip_through (λ input place. IsResultAt (input_view input.now) place) (λ place d. place ≡ Some d.result) (λ input d. IsResult (input_view input.now) d.result)
    (λ input place d fits is. subst (IsResultAt (input_view input.now)) is fits)
    c.args.inputs.now c.args.places.items c.loop-place.done.items c.requires.results
    (subst (λ places. AllZip (λ place d. place ≡ Some d.result) places c.loop-place.done.items) whole c.loop-place.invariant.2)

pub returns-in_err-done-clause-done : goal.returns-in_err-done-clause-done
returns-in_err-done-clause-done c = grind (arith, common_steps)

pub returns-in_err-done-clause-jobs : goal.returns-in_err-done-clause-jobs
returns-in_err-done-clause-jobs c = grind (arith, common_steps)

pub returns-in_err-done-clause-fault : goal.returns-in_err-done-clause-fault
returns-in_err-done-clause-fault c = grind (arith, common_steps)

pub loop-place-init : goal.loop-place-init
loop-place-init c = grind (arith, common_steps)

pub returns-in_default-clause-fault : goal.returns-in_default-clause-fault
returns-in_default-clause-fault c = grind (arith, common_steps)

pub returns-in_err-put-clause-done : goal.returns-in_err-put-clause-done
returns-in_err-put-clause-done c = grind (arith, common_steps)

pub returns-in_err-put-clause-jobs : goal.returns-in_err-put-clause-jobs
returns-in_err-put-clause-jobs c = grind (arith, common_steps)

pub returns-in_err-put-clause-fault : goal.returns-in_err-put-clause-fault
returns-in_err-put-clause-fault c = grind (arith, common_steps)

pub returns-clause-jobs : goal.returns-clause-jobs
returns-clause-jobs c = grind (arith, common_steps)
