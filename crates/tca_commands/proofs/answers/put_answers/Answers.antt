use Rattle.std.proofs.lemmas.Grind.{common_steps}
use Rattle.std.proofs.Common.{◌≡◌, ◌∙◌, ◌<◌, ◌≤◌, ◌+◌, ◌*◌, suc, get_or, Err, Some, List, length, drop, length-set, ap, ap₂, sym, subst, rules, arith}
use Rattle.std.specs.Borrow.{Bor}
use Rattle.std.specs.Prelude.{slice_set}
use Rattle.std.specs.List.{remove}
use Rattle.std.proofs.Math.ListN.{drop_of_length-le}
use Rattle.std.proofs.lemmas.List.{get_or_default}
use Rattle.tca_ingest.specs.Works.{AreLentResults, IsResult}
use Rattle.tca_ingest.specs.declared.job.Done.{Done}
use Rattle.tca_report.specs.input.Inputs.{input_view}
use Rattle.tca_report.specs.declared.input.Input.{Input}
use Rattle.tca_commands.specs.Replicated.{ArePut, answers_of}
use Rattle.tca_commands.proofs.ShareLaws.{are_put, few_answers, next_place, next_result, one_more_inside, one_more_put, no_answer, none_put, put_from, same_place}
use Rattle.tca_commands.proofs.answers.put_answers.Goals as goal

pub remove-result-requires : goal.remove-result-requires
remove-result-requires c =
    let l = c.loop-input in
    let next = next_result (λ (input : Bor Input) (d : Done). IsResult (input_view input.now) d.result) c.args.share.now l.left.items l.input-index c.loop-input-test.true l.invariant.results in
    let some : length l.left.items ≡ suc (length next.more) = ap length next.first in
    search (arith, rules)

pub returns-in_err-put_answer-clause-outside : goal.returns-in_err-put_answer-clause-outside
returns-in_err-put_answer-clause-outside c =
    let l = c.loop-input in
    let is : c.from_residual.result ≡ Err c.in_err-put_answer.field-0.0 = search rules in
    let outside : length c.args.places.now.items ≤ l.at = subst (λ n. n ≤ l.at) l.invariant.many c.in_err-put_answer.ensures.outside in
    let at = l.invariant.at in
    rw is (l.input-index, c.loop-input-test.true, omega arith)

pub loop-input-preserved : goal.loop-input-preserved
loop-input-preserved c =
    let l = c.loop-input in
    let share = c.args.share.now in
    let place = c.args.first + l.input-index * c.args.step in
    let next = next_result (λ (input : Bor Input) (d : Done). IsResult (input_view input.now) d.result) share l.left.items l.input-index c.loop-input-test.true l.invariant.results in
    let input = next.input in
    let d = next.result in
    let more : c.remove-result.new.self.items ≡ next.more = c.remove-result.ensures.items ∙ ap (λ (ds : List Done). remove ds 0) next.first in
    let inside = c.in_ok-put_answer.ensures.inside in
    let few : length l.places.items ≤ 18446744073709551615 = search (arith, rules) in
    let at : l.at ≡ place = same_place l.at place 18446744073709551615 (length l.places.items) l.invariant.at inside few in
    let done : c.remove-result.result ≡ d = c.remove-result.ensures.value ∙ ap (λ (ds : List Done). get_or ds 0 c.remove-result.result) next.first in
    let item = c.input-item.result in
    let same : item ≡ input = c.input-item.is ∙ get_or_default share l.input-index item input c.loop-input-test.true ∙ sym next.at in
    let put : c.put_answer.new.places.items ≡ slice_set l.places.items place (Some (record { input = input_view input.now; result = d.result })) =
    c.in_ok-put_answer.ensures.put
    ∙ ap (λ n. slice_set l.places.items n (Some (record { input = input_view item.now; result = c.remove-result.result.result }))) at
    ∙ ap₂ (λ (i : Bor Input) (d : Done). slice_set l.places.items place (Some (record { input = input_view i.now; result = d.result }))) same done in
    record {
      results = subst (AreLentResults (drop (l.input-index + 1) share)) (sym more) next.zip;
      at = c.saturating_add-at.ensures ∙ next_place l.at c.args.first l.input-index c.args.step 18446744073709551615 l.invariant.at;
      inside = one_more_inside c.args.first c.args.step l.input-index (length c.args.places.now.items) l.invariant.inside (subst (λ n. place < n) l.invariant.many (subst (λ n. n < length l.places.items) at inside));
      many = ap length put ∙ length-set l.places.items place (Some (record { input = input_view input.now; result = d.result })) ∙ l.invariant.many;
      whole =
          ap (λ (ds : List Done). put_from (c.args.first + (l.input-index + 1) * c.args.step) c.args.step c.put_answer.new.places.items (answers_of (drop (l.input-index + 1) share) ds)) more
          ∙ one_more_put share l.input-index place (c.args.first + (l.input-index + 1) * c.args.step) c.args.step l.places.items c.put_answer.new.places.items l.left.items next.more input d next.here next.first (omega arith) put
          ∙ l.invariant.whole;
    }

pub returns-clause-put : goal.returns-clause-put
returns-clause-put c =
    let l = c.loop-input in
    let place = c.args.first + l.input-index * c.args.step in
    let answers = answers_of c.args.share.now c.args.done.items in
    let few : length answers ≤ length c.args.share.now = few_answers c.args.share.now c.args.done.items in
    let past = c.loop-input-test.false in
    let whole : put_from c.args.first c.args.step c.args.places.now.items answers ≡ l.places.items =
    sym (rw (drop_of_length-le c.args.share.now past) at l.invariant.whole)
    ∙ ap (put_from place c.args.step l.places.items) (no_answer l.left.items)
    ∙ none_put place c.args.step l.places.items in
    subst (ArePut c.args.first c.args.step answers c.args.places.now.items) whole
    (are_put c.args.first c.args.step answers c.args.places.now.items c.requires.apart (λ k less. l.invariant.inside k (omega arith)))

pub loop-input-init : goal.loop-input-init
loop-input-init c = grind (arith, common_steps)

pub offset_bounds-share-input-index : goal.offset_bounds-share-input-index
offset_bounds-share-input-index c = grind (arith, common_steps)

pub invariant_of-answer : goal.invariant_of-answer
invariant_of-answer c = grind (arith, common_steps)

pub returns-in_err-put_answer-clause-put : goal.returns-in_err-put_answer-clause-put
returns-in_err-put_answer-clause-put c = grind (arith, common_steps)

pub returns-in_err-put_answer-clause-refused : goal.returns-in_err-put_answer-clause-refused
returns-in_err-put_answer-clause-refused c = grind (arith, common_steps)
