use Rattle.std.proofs.lemmas.Grind.{common_steps}
use Rattle.std.proofs.Common.{◌≡◌, ◌++◌, ◌∷◌, [], Err, map, refl, rules, subst, arith, inl, inr}
use Rattle.std.proofs.Math.ListN.{drop_of_length-le}
use Rattle.tca_report.specs.input.Inputs.{input_view}
use Rattle.tca_program.specs.Noted.{IsNoted}
use Rattle.tca_commands.specs.Replicated.{IsInputFault}
use Rattle.tca_program.specs.Unions.{HoldsReports, memory_refusal}
use Rattle.tca_program.proofs.NotedLaws.{all_noted, one_noted}
use Rattle.tca_commands.proofs.AnswerLaws.{first_at, one_answered, still_behind, stranger_at}
use Rattle.tca_commands.proofs.RefusalLaws.{of_stranger}
use Rattle.tca_commands.proofs.ReadLaws.{all_held, found_at, one_held, one_sound, refused_at, sound_of}
use Rattle.tca_program.proofs.Uniting.{cut}
use Rattle.tca_commands.proofs.answers.readings_of.Goals as goal

pub returns-in_err-noted-clause-refused : goal.returns-in_err-noted-clause-refused
returns-in_err-noted-clause-refused c =
    let l = c.loop-n in
    let e = c.in_err-noted.field-0.0 in
    let input = c.index-inputs-n.result in
    let its : c.in_ok-answer.answer.input ≡ input_view input = c.in_ok-answer.ensures.same in
    let is : c.from_residual-in_err-noted.result ≡ Err e = search rules in
    rw is (refused_at input_view c.args.inputs.now l.n input e c.loop-n-test.true c.index-inputs-n.is l.invariant.before (subst (λ i. IsInputFault l.n i e) its c.in_err-noted.ensures.refused))

pub returns-in_err-noted-clause-first : goal.returns-in_err-noted-clause-first
returns-in_err-noted-clause-first c =
    let l = c.loop-n in
    let e = c.in_err-noted.field-0.0 in
    let input = c.index-inputs-n.result in
    let its : c.in_ok-answer.answer.input ≡ input_view input = c.in_ok-answer.ensures.same in
    let is : c.from_residual-in_err-noted.result ≡ Err e = search rules in
    let at = found_at input_view c.args.inputs.now l.n input c.loop-n-test.true c.index-inputs-n.is in
    let same = l.invariant.behind l.n (omega arith) in
    rw is (first_at (map input_view c.args.inputs.now) c.args.places.items l.places.items l.n (input_view input) at same l.invariant.answered c.in_ok-answer.answer e c.in_ok-answer.ensures.taken its c.in_err-noted.ensures.told)

pub returns-in_err-answer-clause-first : goal.returns-in_err-answer-clause-first
returns-in_err-answer-clause-first c =
    let l = c.loop-n in
    let e = c.in_err-answer.field-0.0 in
    let input = c.index-inputs-n.result in
    let is : c.from_residual-in_err-answer.result ≡ Err e = search rules in
    let at = found_at input_view c.args.inputs.now l.n input c.loop-n-test.true c.index-inputs-n.is in
    let same = l.invariant.behind l.n (omega arith) in
    rw is (stranger_at (map input_view c.args.inputs.now) c.args.places.items l.places.items l.n (input_view input) at same l.invariant.answered e c.in_err-answer.ensures.stranger c.in_err-answer.ensures.refused)

pub returns-in_err-answer-clause-refused : goal.returns-in_err-answer-clause-refused
returns-in_err-answer-clause-refused c =
    let e = c.in_err-answer.field-0.0 in
    let is : c.from_residual-in_err-answer.result ≡ Err e = search rules in
    rw is (inl (of_stranger e c.in_err-answer.ensures.refused))

pub returns-in_err-notes-clause-first : goal.returns-in_err-notes-clause-first
returns-in_err-notes-clause-first c = let is : c.from_residual.result ≡ Err memory_refusal = search rules in rw is (inr (inr refl))

pub returns-in_err-lists-clause-first : goal.returns-in_err-lists-clause-first
returns-in_err-lists-clause-first c = let is : c.from_residual-in_err-lists.result ≡ Err memory_refusal = search rules in rw is (inr (inr refl))

pub returns-then-is_err-clause-first : goal.returns-then-is_err-clause-first
returns-then-is_err-clause-first c = let is : c.from.result ≡ memory_refusal = search rules in rw is (inr (inr refl))

pub loop-n-preserved : goal.loop-n-preserved
loop-n-preserved c =
    let l = c.loop-n in
    let input = c.index-inputs-n.result in
    let notes = c.in_ok-noted.noted in
    let reports = c.in_ok-noted.reports in
    let its : c.in_ok-answer.answer.input ≡ input_view input = c.in_ok-answer.ensures.same in
    let noted : IsNoted (input_view input) notes = subst (λ i. IsNoted i notes) its c.in_ok-noted.ensures.noted in
    let holds : HoldsReports (input_view input) reports = subst (λ i. HoldsReports i reports) its c.in_ok-noted.ensures.holds in
    let at = found_at input_view c.args.inputs.now l.n input c.loop-n-test.true c.index-inputs-n.is in
    let same = l.invariant.behind l.n (omega arith) in
    let here = cut input_view c.args.inputs.now l.n input c.loop-n-test.true c.index-inputs-n.is in
    let more_notes : c.push.new.self.items ≡ l.notes.items ++ (notes ∷ []) = search rules in
    let more_lists : c.push-else-is_err.new.self.items ≡ l.lists.items ++ (reports ∷ []) = search rules in
    record {
      noted = rw more_notes (one_noted _ _ (input_view input) l.notes.items notes noted (rw here at l.invariant.noted));
      hold = rw more_lists (one_held _ _ (input_view input) l.lists.items reports holds (rw here at l.invariant.hold));
      before = one_sound input_view c.args.inputs.now l.n input c.loop-n-test.true c.index-inputs-n.is l.invariant.before (sound_of (input_view input) notes noted);
      answered = one_answered (map input_view c.args.inputs.now) c.args.places.items l.places.items l.n (input_view input) at same l.invariant.answered c.in_ok-answer.answer c.in_ok-answer.ensures.taken its c.in_ok-noted.ensures.none;
      behind = still_behind c.args.places.items l.places.items c.take_answer.new.places.items l.n l.invariant.behind c.in_ok-answer.ensures.others;
    }

pub returns-clause-read : goal.returns-clause-read
returns-clause-read c =
    let l = c.loop-n in
    record {
      noted = all_noted _ l.notes.items (rw (drop_of_length-le c.args.inputs.now c.loop-n-test.false) at l.invariant.noted);
      hold = all_held _ l.lists.items (rw (drop_of_length-le c.args.inputs.now c.loop-n-test.false) at l.invariant.hold);
    }

pub returns-in_err-notes-clause-read : goal.returns-in_err-notes-clause-read
returns-in_err-notes-clause-read c = grind (arith, common_steps)

pub returns-in_err-notes-clause-refused : goal.returns-in_err-notes-clause-refused
returns-in_err-notes-clause-refused c = grind (arith, common_steps)

pub returns-in_err-lists-clause-read : goal.returns-in_err-lists-clause-read
returns-in_err-lists-clause-read c = grind (arith, common_steps)

pub returns-in_err-lists-clause-refused : goal.returns-in_err-lists-clause-refused
returns-in_err-lists-clause-refused c = grind (arith, common_steps)

pub loop-n-init : goal.loop-n-init
loop-n-init c = grind (arith, common_steps)

pub offset_bounds-inputs-n : goal.offset_bounds-inputs-n
offset_bounds-inputs-n c = grind (arith, common_steps)

pub bounds-inputs-n : goal.bounds-inputs-n
bounds-inputs-n c = grind (arith, common_steps)

pub returns-in_err-answer-clause-read : goal.returns-in_err-answer-clause-read
returns-in_err-answer-clause-read c = grind (arith, common_steps)

pub overflow_cast-n : goal.overflow_cast-n
overflow_cast-n c = grind (arith, common_steps)

pub returns-in_err-noted-clause-read : goal.returns-in_err-noted-clause-read
returns-in_err-noted-clause-read c = grind (arith, common_steps)

pub returns-then-is_err-clause-refused : goal.returns-then-is_err-clause-refused
returns-then-is_err-clause-refused c = grind (arith, common_steps)
