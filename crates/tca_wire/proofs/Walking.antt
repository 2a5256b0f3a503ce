-- Each step of a walk.
use Rattle.std.proofs.Common.{◌≡◌, ℕ, zero, suc, ◌+◌, ◌<◌, List, length, drop, Result, Ok, Err, refl, ap, ◌∙◌, arith}
use Rattle.std.specs.Prelude.{◌≢◌, IfOk, IfErr}
use Rattle.std.proofs.lemmas.List.{length-drop}
use Rattle.tca_wire.specs.Walks.{Front, Ends, Bad, Next, by_front, walk_for, walk, Advances}
use Rattle.tca_join.specs.Results.{Gives}

module _ {S F : Type 0} (front : S → ℕ → List ℕ → Front S F) (advances : Advances front) where
  -- more pieces than there are octets change nothing
  enough : (a b : ℕ) (s : S) (at : ℕ) (octets : List ℕ) → length octets < a → length octets < b → walk_for front a s at octets ≡ walk_for front b s at octets
  unfolding walk_for
  enough zero b s at octets la lb = absurd (omega arith)
  enough (suc a) zero s at octets la lb = absurd (omega arith)
  enough (suc a) (suc b) s at octets la lb = go (λ t at rest la lb. enough a b t at rest la lb) (front s at octets) refl
    where
      go : ((t : S) (at : ℕ) (rest : List ℕ) → length rest < a → length rest < b → walk_for front a t at rest ≡ walk_for front b t at rest)
          → (x : Front S F) → front s at octets ≡ x
          → by_front (λ t n. walk_for front a t (at + n) (drop n octets)) s x ≡ by_front (λ t n. walk_for front b t (at + n) (drop n octets)) s x
      go more Ends e = refl
      go more (Bad f) e = refl
      go more (Next t n) e = let h = advances s t at n octets e in
          more t (at + n) (drop n octets) (omega (arith, h.0, h.1, length-drop n octets)) (omega (arith, h.0, h.1, length-drop n octets))

  pub walk_next : (s t : S) (at n : ℕ) (octets : List ℕ) → front s at octets ≡ Next t n → walk front s at octets ≡ walk front t (at + n) (drop n octets)
  unfolding walk walk_for
  walk_next s t at n octets e =
      let h = advances s t at n octets e in
      ap (by_front (λ t n. walk_for front (length octets) t (at + n) (drop n octets)) s) e
      ∙ enough (length octets) (suc (length (drop n octets))) t (at + n) (drop n octets) (omega (arith, h.0, h.1, length-drop n octets)) (omega arith)

  pub walk_ends : (s : S) (at : ℕ) (octets : List ℕ) → front s at octets ≡ Ends → walk front s at octets ≡ Ok s
  unfolding walk walk_for
  walk_ends s at octets e = ap (by_front (λ t n. walk_for front (length octets) t (at + n) (drop n octets)) s) e

  pub walk_bad : (s : S) (at : ℕ) (octets : List ℕ) (f : F) → front s at octets ≡ Bad f → walk front s at octets ≡ Err f
  unfolding walk walk_for
  walk_bad s at octets f e = ap (by_front (λ t n. walk_for front (length octets) t (at + n) (drop n octets)) s) e

-- what holds of whatever the definition gives holds of what was returned
pub gives_ok : {X Y F : Type 0} (memory : F) (view : X → Y) (P : Y → Type 0) (r : Result X F) (given : Result Y F)
    → ((y : Y) → given ≡ Ok y → P y) → Gives memory view r given → IfOk r (λ x. P (view x))
gives_ok memory view P (Ok x) given all h = all (view x) h
gives_ok memory view P (Err e) given all h = tt

-- and what holds of each fault that it gives holds of the fault that was answered, unless memory ran out
pub gives_err : {X Y F : Type 0} (memory : F) (view : X → Y) (P : F → Type 0) (r : Result X F) (given : Result Y F)
    → ((f : F) → given ≡ Err f → P f) → Gives memory view r given → IfErr r (λ f. f ≢ memory → P f)
gives_err memory view P (Ok x) given all h = tt
gives_err memory view P (Err f) given all h = λ other. all f (h other)
