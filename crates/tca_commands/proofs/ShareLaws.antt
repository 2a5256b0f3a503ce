-- Which inputs a replica reads, and where their answers are put.
use Rattle.std.proofs.Common.{◌≡◌, ◌≢◌, ◌∙◌, ◌<◌, ◌≤◌, ◌+◌, ◌*◌, ◌%◌, ◌==◌, ℕ, zero, suc, true, false, Option, Some, List, [], ◌∷◌, ◌++◌, length, map, drop, get_or, min, refl, sym, ap, subst, append_assoc, length-set, add-one, arith}
use mathlib.Core.Logic.{dite}
use native.Mathlib.Decide.{ℕ_discrete}
use Rattle.std.specs.Borrow.{Bor}
use Rattle.std.specs.Prelude.{slice_get, slice_set}
use Rattle.std.specs.List.{AllZip, enumerate_from, filter}
use Rattle.tca_ingest.specs.declared.job.Done.{Done}
use Rattle.tca_report.specs.input.Inputs.{InputView, input_view}
use Rattle.tca_report.specs.declared.input.Input.{Input}
use Rattle.tca_commands.specs.Replicated.{AnswerView, ArePut, answers_of, share_of}

-- the share of inputs, the first of which has this number
unfoldable pub share_from : (n remainder divisor : ℕ) → List InputView → List InputView
share_from n remainder divisor inputs = map (λ p. p.1) (filter (λ p. p.0 % divisor == remainder) (enumerate_from n inputs))

pub share_is : (remainder divisor : ℕ) (inputs : List InputView) → share_from 0 remainder divisor inputs ≡ share_of remainder divisor inputs
unfolding share_from share_of
share_is remainder divisor inputs = refl

-- an input of the share, and one that isn't
pub share_takes : (n remainder divisor : ℕ) (so_far : List InputView) (input : InputView) (rest : List InputView) → (n % divisor == remainder) ≡ true
    → (so_far ++ input ∷ []) ++ share_from (n + 1) remainder divisor rest ≡ so_far ++ share_from n remainder divisor (input ∷ rest)
unfolding share_from
share_takes n remainder divisor so_far input rest is = rw is (append_assoc so_far (input ∷ []) (share_from (n + 1) remainder divisor rest))

pub share_skips : (n remainder divisor : ℕ) (so_far : List InputView) (input : InputView) (rest : List InputView) → (n % divisor == remainder) ≡ false
    → so_far ++ share_from (n + 1) remainder divisor rest ≡ so_far ++ share_from n remainder divisor (input ∷ rest)
unfolding share_from
share_skips n remainder divisor so_far input rest is = rw is refl

pub share_ends : (n remainder divisor : ℕ) → share_from n remainder divisor [] ≡ []
unfolding share_from
share_ends n remainder divisor = refl

-- places with answers, one after another: the first at a place, each other one so many places after the one before it
unfoldable pub put_from : (place step : ℕ) → List (Option AnswerView) → List AnswerView → List (Option AnswerView)
put_from place step places [] = places
put_from place step places (answer ∷ answers) = put_from (place + step) step (slice_set places place (Some answer)) answers

-- one answer is put, and the others from the next place on
one_put : (place step : ℕ) (places : List (Option AnswerView)) (answer : AnswerView) (answers : List AnswerView)
    → put_from place step places (answer ∷ answers) ≡ put_from (place + step) step (slice_set places place (Some answer)) answers
unfolding put_from
one_put place step places answer answers = refl

pub none_put : (place step : ℕ) (places : List (Option AnswerView)) → put_from place step places [] ≡ places
unfolding put_from
none_put place step places = refl

one_answer : (input : Bor Input) (inputs : List (Bor Input)) (d : Done) (done : List Done)
    → answers_of (input ∷ inputs) (d ∷ done) ≡ record { input = input_view input.now; result = d.result } ∷ answers_of inputs done
unfolding answers_of
one_answer input inputs d done = refl

pub no_answer : (done : List Done) → answers_of [] done ≡ []
unfolding answers_of
no_answer done = refl

-- no input has more than one answer
pub few_answers : (inputs : List (Bor Input)) (done : List Done) → length (answers_of inputs done) ≤ length inputs
unfolding answers_of
few_answers [] done = omega arith
few_answers (input ∷ inputs) [] = omega arith
few_answers (input ∷ inputs) (d ∷ done) = let rest = few_answers inputs done in omega arith

-- the item at a place that was set, and at another one
get_here : {X : Type 0} (xs : List X) (i : ℕ) (x : X) → i < length xs → slice_get (slice_set xs i x) i ≡ Some x
get_here [] i x inside = let no : ⊥ = omega arith in absurd no
get_here (y ∷ ys) zero x inside = refl
get_here (y ∷ ys) (suc i) x inside = get_here ys i x (omega arith)

pub get_there : {X : Type 0} (xs : List X) (i k : ℕ) (x : X) → k ≢ i → slice_get (slice_set xs i x) k ≡ slice_get xs k
get_there [] i k x other = refl
get_there (y ∷ ys) zero zero x other = absurd (other refl)
get_there (y ∷ ys) zero (suc k) x other = refl
get_there (y ∷ ys) (suc i) zero x other = refl
get_there (y ∷ ys) (suc i) (suc k) x other = get_there ys i k x (λ is. other (ap suc is))

-- each answer at its place, where the first is at the first one
put_each : (first step : ℕ) (answer : AnswerView) (answers : List AnswerView) (new : List (Option AnswerView)) → slice_get new first ≡ Some (Some answer)
    → ((k : ℕ) → k < length answers → slice_get new (first + step + k * step) ≡ Some (slice_get answers k))
    → (k : ℕ) → k < length (answer ∷ answers) → slice_get new (first + k * step) ≡ Some (slice_get (answer ∷ answers) k)
put_each first step answer answers new here rest zero less = let same : first + 0 * step ≡ first = omega arith in rw same here
put_each first step answer answers new here rest (suc k) less = let same : first + suc k * step ≡ first + step + k * step = omega arith in rw same (rest k (omega arith))

-- where there are places for all, so put they stand where they should
pub are_put : (first step : ℕ) (answers : List AnswerView) (old : List (Option AnswerView)) → 1 ≤ step → ((k : ℕ) → k < length answers → first + k * step < length old)
    → ArePut first step answers old (put_from first step old answers)
unfolding put_from
are_put first step [] old above inside = record { many = refl; put = λ k less. let no : ⊥ = omega arith in absurd no; others = λ place other. refl }
are_put first step (answer ∷ answers) old above inside =
    let set = slice_set old first (Some answer) in
    let many : length set ≡ length old = length-set old first (Some answer) in
    let rest = are_put (first + step) step answers set above (λ k less. let here = inside (suc k) (omega arith) in omega arith) in
    let here : slice_get (put_from (first + step) step set answers) first ≡ Some (Some answer) =
    rest.others first (λ k less is. let no : ⊥ = omega arith in absurd no) ∙ get_here old first (Some answer) (let here = inside 0 (omega arith) in omega arith) in
    let new = put_from (first + step) step set answers in
    record {
      many = rest.many ∙ many;
      put = put_each first step answer answers new here rest.put;
      others = λ place other.
          rest.others place (λ k less is. other (suc k) (omega arith) (omega arith))
          ∙ get_there old first place (Some answer) (λ is. other 0 (omega arith) (omega arith));
    }

-- the input at a place of a share, and the first of the results that are left, which is that input's
pub record NextResult {A B : Type 0} (R : A → B → Type 0) (xs : List A) (ys : List B) (i next : ℕ) : Type 0 where
  pub input : A
  pub result : B
  pub more : List B
  pub here : drop i xs ≡ input ∷ drop next xs
  pub at : input ≡ get_or xs i input
  pub first : ys ≡ result ∷ more
  pub zip : AllZip R (drop next xs) more

result_at : {A B : Type 0} (R : A → B → Type 0) (xs : List A) (ys : List B) (i : ℕ) → i < length xs → AllZip R (drop i xs) ys → NextResult R xs ys i (suc i)
result_at R [] ys i inside zip = let no : ⊥ = omega arith in absurd no
result_at R (x ∷ xs) [] zero inside zip = absurd zip
result_at R (x ∷ xs) (y ∷ ys) zero inside zip = record { input = x; result = y; more = ys; here = refl; at = refl; first = refl; zip = zip.1 }
result_at R (x ∷ xs) ys (suc i) inside zip =
    let next = result_at R xs ys i (omega arith) zip in
    record { input = next.input; result = next.result; more = next.more; here = next.here; at = next.at; first = next.first; zip = next.zip }

pub next_result : {A B : Type 0} (R : A → B → Type 0) (xs : List A) (ys : List B) (i : ℕ) → i < length xs → AllZip R (drop i xs) ys → NextResult R xs ys i (i + 1)
next_result R xs ys i inside zip = rw add-one (result_at R xs ys i inside zip)

-- the answer of that input is put, and those of the others from the next place on
pub one_more_put : (share : List (Bor Input)) (i place next step : ℕ) (places new : List (Option AnswerView)) (left more : List Done) (input : Bor Input) (d : Done)
    → drop i share ≡ input ∷ drop (i + 1) share → left ≡ d ∷ more → next ≡ place + step → new ≡ slice_set places place (Some (record { input = input_view input.now; result = d.result }))
    → put_from next step new (answers_of (drop (i + 1) share) more) ≡ put_from place step places (answers_of (drop i share) left)
one_more_put share i place next step places new left more input d here first next-is new-is =
    ap (λ n. put_from n step new (answers_of (drop (i + 1) share) more)) next-is
    ∙ ap (λ (p : List (Option AnswerView)). put_from (place + step) step p (answers_of (drop (i + 1) share) more)) new-is
    ∙ sym (one_put place step places (record { input = input_view input.now; result = d.result }) (answers_of (drop (i + 1) share) more))
    ∙ ap (put_from place step places) (sym (one_answer input (drop (i + 1) share) d more))
    ∙ ap (λ (xs : List (Bor Input)). put_from place step places (answers_of xs (d ∷ more))) (sym here)
    ∙ ap (λ (ds : List Done). put_from place step places (answers_of (drop i share) ds)) (sym first)

-- a place among all is the one that was counted, and the next place may saturate
pub same_place : (at place most many : ℕ) → at ≡ min place most → at < many → many ≤ most → at ≡ place
same_place at place most many is inside few = omega arith

pub next_place : (at first i step most : ℕ) → at ≡ min (first + i * step) most → min (at + step) most ≡ min (first + (i + 1) * step) most
next_place at first i step most is = omega arith

-- one more place is there
pub one_more_inside : (first step i many : ℕ) → ((k : ℕ) → k < i → first + k * step < many) → first + i * step < many → (k : ℕ) → k < i + 1 → first + k * step < many
one_more_inside first step i many so_far here k less = dite (ℕ_discrete k i) (λ is. subst (λ n. first + n * step < many) (sym is) here) (λ other. so_far k (omega arith))
