-- Answers at the places of inputs, gone through in order.
use Rattle.std.proofs.Common.{◌≡◌, ◌≢◌, ◌∙◌, ◌≤◌, ◌+◌, ℕ, List, Option, Some, None, ap, sym, subst, arith, inl, inr}
use mathlib.Core.Logic.{dite}
use native.Mathlib.Decide.{ℕ_discrete}
use Rattle.std.specs.Prelude.{slice_get, slice_set}
use Rattle.std.proofs.lemmas.Option.{slice_get_within}
use Rattle.tca_report.specs.input.Inputs.{InputView}
use Rattle.tca_program.specs.declared.fault.RunFault.{RunFault}
use Rattle.tca_commands.specs.Replicated.{AnswerView, AreAnswered, AreAnswersRefused, IsAnswerAt, refusal_of, stranger_refusal}
use Rattle.tca_commands.proofs.ShareLaws.{get_there}

-- before the first place
pub none_answered : (inputs : List InputView) (places : List (Option AnswerView)) → AreAnswered inputs places 0
none_answered inputs places n low = let no : ⊥ = omega (arith, low) in absurd no

-- what is behind a place stays as its answer is taken
pub still_behind : (old now more : List (Option AnswerView)) (n : ℕ) → ((k : ℕ) → n ≤ k → slice_get now k ≡ slice_get old k) → more ≡ slice_set now n None
    → (k : ℕ) → n + 1 ≤ k → slice_get more k ≡ slice_get old k
still_behind old now more n same is k past =
    ap (λ (ps : List (Option AnswerView)). slice_get ps k) is
    ∙ get_there now n k None (λ at. let no : ⊥ = omega (arith, past, at) in absurd no)
    ∙ same k (omega (arith, past))

module _ (inputs : List InputView) (old now : List (Option AnswerView)) (n : ℕ) (input : InputView) (at : slice_get inputs n ≡ Some input) (same : slice_get now n ≡ slice_get old n)
    (before : AreAnswered inputs old n) where
  answer_at : (answer : AnswerView) → slice_get now n ≡ Some (Some answer) → answer.input ≡ input → IsAnswerAt inputs old n answer
  answer_at answer got its = (sym same ∙ got, at ∙ ap Some (sym its))

  -- one place more with an answer that is no refusal
  pub one_answered : (answer : AnswerView) → slice_get now n ≡ Some (Some answer) → answer.input ≡ input → refusal_of n answer.result ≡ None → AreAnswered inputs old (n + 1)
  one_answered answer got its none k low =
      dite (ℕ_discrete k n)
      (λ is. subst (λ m. (a : AnswerView) × IsAnswerAt inputs old m a × (refusal_of m a.result ≡ None)) (sym is) (answer, answer_at answer got its, none))
      (λ other. before k (omega arith))

  -- the first answer that is a refusal
  pub first_at : (answer : AnswerView) (e : RunFault) → slice_get now n ≡ Some (Some answer) → answer.input ≡ input → refusal_of n answer.result ≡ Some e → AreAnswersRefused inputs old e
  first_at answer e got its told = inl (record { place = n; answer = answer; here = answer_at answer got its; told = told; before = before })

  -- the first place without an answer of its input
  pub stranger_at : (e : RunFault) → ((a : AnswerView) → slice_get now n ≡ Some (Some a) → a.input ≢ input) → e ≡ stranger_refusal → AreAnswersRefused inputs old e
  stranger_at e missing is =
      inr (inl (record {
        named = is;
        place = n;
        inside = slice_get_within inputs n input at;
        missing = λ a here. let one : Some a.input ≡ Some input = sym here.1 ∙ at in missing a (same ∙ here.0) cc;
        before = before;
      }))
