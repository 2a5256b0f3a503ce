use Rattle.std.proofs.lemmas.Grind.{common_steps}
use Rattle.std.proofs.Common.{◌≡◌, ◌∙◌, ◌<◌, length, Some, false, ap, sym, rules, arith}
use Rattle.std.specs.Prelude.{slice_get}
use Rattle.std.proofs.lemmas.Option.{slice_get-get_or}
use Rattle.tca_report.specs.input.Inputs.{input_view}
use Rattle.tca_commands.specs.Replicated.{AnswerView}
use Rattle.tca_commands.proofs.answers.take_answer.Goals as goal

pub returns-then-not-is_same-clause-stranger : goal.returns-then-not-is_same-clause-stranger
returns-then-not-is_same-clause-stranger c = λ a here same.
    let places = c.args.places.now.items in
    let inside : c.args.n < length places = search (arith, rules) in
    let was : c.index_mut.result.now ≡ Some c.in-Some.answer = search rules in
    let got : slice_get places c.args.n ≡ Some (Some c.in-Some.answer) = slice_get-get_or places c.args.n c.index_mut.result.now inside ∙ ap Some (sym c.index_mut.ensures.value ∙ was) in
    let is : Some (Some a) ≡ Some (Some c.in-Some.answer) = sym here ∙ got in
    let one : a ≡ c.in-Some.answer = cc in
    let input : c.in-Some.answer.input ≡ input_view c.args.input.now = sym (ap (λ (v : AnswerView). v.input) one) ∙ same in
    let no : c.is_same.result ≡ false = search rules in
    c.is_same.ensures.other no ((search rules) ∙ input)

pub returns-clause-taken : goal.returns-clause-taken
returns-clause-taken c =
    let places = c.args.places.now.items in
    let inside : c.args.n < length places = search (arith, rules) in
    let was : c.index_mut.result.now ≡ Some c.in-Some.answer = search rules in
    slice_get-get_or places c.args.n c.index_mut.result.now inside ∙ ap Some (sym c.index_mut.ensures.value ∙ was)

pub returns-then-n-len-clause-refused : goal.returns-then-n-len-clause-refused
returns-then-n-len-clause-refused c = grind (arith, common_steps)

pub index_mut-requires : goal.index_mut-requires
index_mut-requires c = grind (arith, common_steps)

pub returns-in_default-clause-refused : goal.returns-in_default-clause-refused
returns-in_default-clause-refused c = grind (arith, common_steps)

pub returns-then-not-is_same-clause-refused : goal.returns-then-not-is_same-clause-refused
returns-then-not-is_same-clause-refused c = grind (arith, common_steps)

pub same-answer : goal.same-answer
same-answer c = grind (arith, common_steps)
