-- Uniting the inputs one by one.
use Rattle.std.proofs.Common.{◌≡◌, ◌∙◌, ℕ, suc, ◌+◌, ◌<◌, ◌≤◌, List, [], ◌∷◌, ◌++◌, length, get_or, map, take, drop, Some, Result, Ok, Err, is_ok, true, refl, sym, ap, ap₂, add-one, arith}
use Rattle.std.specs.Prelude.{IsOk, option_map, slice_get}
use Rattle.std.proofs.lemmas.Option.{slice_get-map, slice_get_read}
use Rattle.std.proofs.lemmas.List.{length-map, length-take-le, map-append, take-map, take_more}
use Rattle.std.proofs.Math.Seq.{drop-cons}
use Rattle.std.proofs.Math.ListN.{drop_of_length-le}
use Rattle.tca_join.specs.Results.{◌>>=◌}
use Rattle.tca_report.specs.report.Reports.{PacketReport}
use Rattle.tca_report.specs.input.Inputs.{InputView, read_input}
use Rattle.tca_program.specs.declared.fault.RunFault.{RunFault}
use Rattle.tca_program.specs.Unions.{IsInTurn, IsRefusedAs, MayLackMemory, is_log_memory, is_memory, united_from, with_input}

pub cut : {X : Type 0} (f : X → InputView) (xs : List X) (i : ℕ) (x : X) → i < length xs → x ≡ get_or xs i x → map f (drop i xs) ≡ f x ∷ map f (drop (i + 1) xs)
cut f xs i x h is = rw add-one (ap (map f) (drop-cons xs i x h) ∙ ap (λ y. f y ∷ map f (drop (suc i) xs)) (sym is))

module _ {X : Type 0} (f : X → InputView) (inputs : List X) (n : ℕ) (held : List PacketReport) (total : Result (List PacketReport) RunFault)
    (so_far : united_from n held (map f (drop n inputs)) ≡ total) where
  -- what an input makes of the rest
  one_more : (input : X) → n < length inputs → input ≡ get_or inputs n input → (with_input n held (read_input (f input)) >>= (λ more. united_from (n + 1) more (map f (drop (n + 1) inputs)))) ≡ total
  unfolding united_from
  one_more input h is = sym (ap (united_from n held) (cut f inputs n input h is)) ∙ so_far

  pub goes_on : (input : X) (more : List PacketReport) → n < length inputs → input ≡ get_or inputs n input → with_input n held (read_input (f input)) ≡ Ok more
      → united_from (n + 1) more (map f (drop (n + 1) inputs)) ≡ total
  goes_on input more h is taken = sym (ap (λ r. r >>= (λ more. united_from (n + 1) more (map f (drop (n + 1) inputs)))) taken) ∙ one_more input h is

  pub refused : (input : X) (fault : RunFault) → n < length inputs → input ≡ get_or inputs n input → IsRefusedAs fault (with_input n held (read_input (f input))) → IsRefusedAs fault total
  refused input fault h is as_said = λ other. sym (one_more input h is) ∙ ap (λ r. r >>= (λ more. united_from (n + 1) more (map f (drop (n + 1) inputs)))) (as_said other)

  pub cut_here : (input : X) → n < length inputs → input ≡ get_or inputs n input → map f (drop n inputs) ≡ f input ∷ map f (drop (n + 1) inputs)
  cut_here input h is = cut f inputs n input h is

  pub all_in : length inputs ≤ n → total ≡ Ok held
  unfolding united_from
  all_in h = sym so_far ∙ ap (λ (rest : List X). united_from n held (map f rest)) (drop_of_length-le inputs h)

same_held : (a b : List PacketReport) (r : Result (List PacketReport) RunFault) → r ≡ Ok a → r ≡ Ok b → a ≡ b
same_held a b r one other = let both : Ok a ≡ Ok b = sym one ∙ other in cc

-- where the one goes on to its end, so does the other
through : (r : Result (List PacketReport) RunFault) (f g : List PacketReport → Result (List PacketReport) RunFault) (b c : List PacketReport)
    → (r >>= f) ≡ Ok b → ((a : List PacketReport) → f a ≡ Ok b → g a ≡ Ok c) → (r >>= g) ≡ Ok c
through (Ok a) f g b c done more = more a done
through (Err e) f g b c done more = absurd cc

-- one input more at the end
one_behind : (first n : ℕ) (held : List PacketReport) (inputs : List InputView) (input : InputView) (so_far more : List PacketReport) → first + length inputs ≡ n
    → united_from first held inputs ≡ Ok so_far → with_input n so_far (read_input input) ≡ Ok more → united_from first held (inputs ++ input ∷ []) ≡ Ok more
unfolding united_from
one_behind first n held [] input so_far more count taken next =
    let place : first ≡ n = omega (arith, count) in
    let same : held ≡ so_far = same_held held so_far (united_from first held []) refl taken in
    ap (λ r. r >>= (λ rs. united_from (first + 1) rs [])) (ap₂ (λ k rs. with_input k rs (read_input input)) place same ∙ next)
one_behind first n held (x ∷ xs) input so_far more count taken next =
    through (with_input first held (read_input x)) (λ rs. united_from (first + 1) rs xs) (λ rs. united_from (first + 1) rs (xs ++ input ∷ [])) so_far more taken
    (λ rs on. one_behind (first + 1) n rs xs input so_far more (omega (arith, count)) on next)

-- before the first input
pub none_taken : united_from 0 [] [] ≡ Ok []
unfolding united_from
none_taken = refl

module _ {X : Type 0} (f : X → InputView) (inputs : List X) (n : ℕ) (so_far : List PacketReport) (inside : n < length inputs) (taken : united_from 0 [] (map f (take n inputs)) ≡ Ok so_far) where
  -- once an input was taken all up to it were
  pub one_taken : (input : X) (more : List PacketReport) → input ≡ get_or inputs n input → with_input n so_far (read_input (f input)) ≡ Ok more → united_from 0 [] (map f (take (n + 1) inputs)) ≡ Ok more
  one_taken input more is next =
      let cut : map f (take (n + 1) inputs) ≡ map f (take n inputs) ++ f input ∷ [] =
      ap (map f) (take_more inputs n input inside) ∙ map-append f (take n inputs) (get_or inputs n input ∷ []) ∙ ap (λ x. map f (take n inputs) ++ f x ∷ []) (sym is) in
      let count : 0 + length (map f (take n inputs)) ≡ n = omega (arith, length-map (take n inputs) f, length-take-le n inputs (omega (arith, inside))) in
      ap (united_from 0 []) cut ∙ one_behind 0 n [] (map f (take n inputs)) (f input) so_far more count taken next

  -- a refusal that names the next input
  pub in_turn : (input : X) (e : RunFault) → input ≡ get_or inputs n input → e.input ≡ Some n → (is_log_memory e ≡ true → IsOk (with_input n so_far (read_input (f input))))
      → (is_memory e ≡ true → MayLackMemory (f input)) → IsInTurn (map f inputs) e
  in_turn input e here is wanted last =
      let found : slice_get (map f inputs) n ≡ Some (f input) = slice_get-map f inputs n ∙ ap (option_map f) (slice_get_read inputs (length inputs) n input refl inside here) in
      rw is (record {
        inside = omega (arith, inside, length-map inputs f);
        before = ap is_ok (ap (united_from 0 []) (take-map f n inputs) ∙ taken);
        log_memory = λ short. all_taken (with_input n so_far (read_input (f input))) refl (wanted short);
        memory_last = λ short. rw found (last short);
      })
    where
      all_taken : (r : Result (List PacketReport) RunFault) → with_input n so_far (read_input (f input)) ≡ r → IsOk r → IsOk (united_from 0 [] (take (n + 1) (map f inputs)))
      all_taken (Ok more) k ok = ap is_ok (ap (united_from 0 []) (take-map f (n + 1) inputs) ∙ one_taken input more here k)
      all_taken (Err x) k ok = absurd cc
