use Rattle.std.proofs.Common.{◌≡◌, ◌∙◌, true, Some, inl, slice_index_or, rules, sym, ap, subst, arith}
use denote.Bor.{Bor}
use Rattle.tca_report.specs.input.Inputs.{input_view}
use Rattle.tca_report.specs.declared.input.Input.{Input}
use Rattle.tca_ingest.specs.Works.{IsResult, IsResultAt}
use Rattle.tca_ingest.proofs.Collecting.{empty_there, other_input, taken_place, zip_length, zip_set}
use Rattle.tca_ingest.proofs.collect.fill_place.Goals as goal

pub returns-clause-results : goal.returns-clause-results
returns-clause-results c =
    let given = c.of_job.inside in
    let none : Bor Input = c.index-inputs-at.result in
    let yes : c.is_same.result ≡ true = search rules in
    let wanted : slice_index_or c.args.inputs.now given.job none ≡ none = sym c.index-inputs-at.is in
    let same : input_view (slice_index_or c.args.inputs.now given.job none).now ≡ input_view given.input.now =
    ap (λ (b : Bor Input). input_view b.now) wanted ∙ c.is_same.ensures.same yes in
    zip_set (λ (input : Bor Input) place. IsResultAt (input_view input.now) place) c.args.inputs.now c.args.places.now.items given.job none (Some given.result) c.requires c.if-at-inputs.false
    (subst (λ input. IsResult input given.result) (sym same) c.of_job.invariant)

pub returns-then-not-is_same-clause-refused : goal.returns-then-not-is_same-clause-refused
returns-then-not-is_same-clause-refused c =
    let given = c.of_job.inside in
    rw (← c.of_job.view_is) (other_input c.args.inputs.now c.args.places.now.items (record { job = given.job; input = input_view given.input.now; result = given.result }) c.index-inputs-at.result c.if-at-inputs.false c.index-inputs-at.is (c.is_same.ensures.other c.if-not-is_same.true))

pub index-requires : goal.index-requires
index-requires c =
    let among = zip_length (λ (input : Bor Input) place. IsResultAt (input_view input.now) place) c.args.inputs.now c.args.places.now.items c.requires in
    omega (arith, among, c.if-at-inputs.false)

pub returns-then-is_some-clause-refused : goal.returns-then-is_some-clause-refused
returns-then-is_some-clause-refused c =
    let given = c.of_job.inside in
    let among = zip_length (λ (input : Bor Input) place. IsResultAt (input_view input.now) place) c.args.inputs.now c.args.places.now.items c.requires in
    rw (← c.of_job.view_is) (taken_place c.args.inputs.now c.args.places.now.items (record { job = given.job; input = input_view given.input.now; result = given.result }) c.index.result.now (omega (arith, among, c.if-at-inputs.false)) c.index.ensures (sym c.is_some.ensures ∙ c.if-is_some.true))

pub returns-then-at-inputs-clause-refused : goal.returns-then-at-inputs-clause-refused
returns-then-at-inputs-clause-refused c = rw (← c.of_job.view_is) (inl c.if-at-inputs.true)

pub returns-clause-empty : goal.returns-clause-empty
returns-clause-empty c =
    let among = zip_length (λ (input : Bor Input) place. IsResultAt (input_view input.now) place) c.args.inputs.now c.args.places.now.items c.requires in
    rw (← c.of_job.view_is) (λ d. empty_there c.args.places.now.items c.of_job.inside.job c.index.result.now (omega (arith, among, c.if-at-inputs.false)) c.index.ensures (sym c.is_some.ensures ∙ c.if-is_some.false) d)

pub index_mut-requires : goal.index_mut-requires
index_mut-requires c =
    let among = zip_length (λ (input : Bor Input) place. IsResultAt (input_view input.now) place) c.args.inputs.now c.args.places.now.items c.requires in
    omega (arith, among, c.if-at-inputs.false)
