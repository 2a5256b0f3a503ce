-- What two tests on a list keep.
use Rattle.std.proofs.Common.{◌≡◌, ◌+◌, Bool, true, false, not, ◌&&◌, ◌||◌, cond, List, [], ◌∷◌, length, map, filter, refl, sym, ap, ◌∙◌, subst, arith}
use Rattle.std.proofs.lemmas.Bool.{false≢true}
use Rattle.std.specs.List.{AllByRecursion, list_any}
use Rattle.std.specs.Ordering.{eq_by_cmp}
use Rattle.std.specs.Cmp.{Equal-is}
use Rattle.std.specs.declared.cmp.Ordering.{Ordering}
use Rattle.std.proofs.lemmas.Map.Lookups.{CmpEqualImpliesEq}
use Rattle.tca_join.specs.Sets.{has}

module _ {K : Type 0} where
  -- where p means f, keeping f first changes nothing
  pub filter_within : (p f : K → Bool) (xs : List K) → ((x : K) → p x ≡ true → f x ≡ true) → filter p (filter f xs) ≡ filter p xs
  filter_within p f [] h = refl
  filter_within p f (x ∷ xs) h =
      elim (f x) as (λ b. f x ≡ b → filter p (cond b (x ∷ filter f xs) (filter f xs)) ≡ cond (p x) (x ∷ filter p xs) (filter p xs)) [
        | true ↦ λ e. ap (λ (l : List K). cond (p x) (x ∷ l) l) (filter_within p f xs h)
        | false ↦ λ e. filter_within p f xs h
            ∙ elim (p x) as (λ b. p x ≡ b → filter p xs ≡ cond b (x ∷ filter p xs) (filter p xs)) [
              | true ↦ λ k. absurd (false≢true (sym e ∙ h x k))
              | false ↦ λ k. refl
            ] refl
      ] refl

  -- where p means that f doesn't hold, nothing is kept
  pub filter_apart : (p f : K → Bool) (xs : List K) → ((x : K) → p x ≡ true → f x ≡ false) → filter p (filter f xs) ≡ []
  filter_apart p f [] h = refl
  filter_apart p f (x ∷ xs) h =
      elim (f x) as (λ b. f x ≡ b → filter p (cond b (x ∷ filter f xs) (filter f xs)) ≡ []) [
        | true ↦ λ e. elim (p x) as (λ b. p x ≡ b → cond b (x ∷ filter p (filter f xs)) (filter p (filter f xs)) ≡ []) [
          | true ↦ λ k. absurd (false≢true (sym (h x k) ∙ e))
          | false ↦ λ k. filter_apart p f xs h
        ] refl
        | false ↦ λ e. filter_apart p f xs h
      ] refl

  -- two tests that agree where f holds
  pub filter_swap : (p q f : K → Bool) (xs : List K) → ((x : K) → f x ≡ true → p x ≡ q x) → filter p (filter f xs) ≡ filter f (filter q xs)
  filter_swap p q f [] h = refl
  filter_swap p q f (x ∷ xs) h =
      elim (f x) as (λ b. f x ≡ b → filter p (cond b (x ∷ filter f xs) (filter f xs)) ≡ filter f (cond (q x) (x ∷ filter q xs) (filter q xs))) [
        | true ↦ λ e. ap (λ (b : Bool). cond b (x ∷ filter p (filter f xs)) (filter p (filter f xs))) (h x e)
            ∙ elim (q x) as (λ b. cond b (x ∷ filter p (filter f xs)) (filter p (filter f xs)) ≡ filter f (cond b (x ∷ filter q xs) (filter q xs))) [
              | true ↦ (λ i. cond (sym e i) (x ∷ filter_swap p q f xs h i) (filter_swap p q f xs h i))
              | false ↦ filter_swap p q f xs h
            ]
        | false ↦ λ e. filter_swap p q f xs h
            ∙ elim (q x) as (λ b. filter f (filter q xs) ≡ filter f (cond b (x ∷ filter q xs) (filter q xs))) [
              | true ↦ λ i. cond (sym e i) (x ∷ filter f (filter q xs)) (filter f (filter q xs))
              | false ↦ refl
            ]
      ] refl

  -- how many a test keeps, on both sides of f
  pub length_split : (f : K → Bool) (xs : List K) → length xs ≡ length (filter f xs) + length (filter (λ x. not (f x)) xs)
  length_split f [] = refl
  length_split f (x ∷ xs) =
      let rest = length_split f xs in
      elim (f x) as (λ b. length (x ∷ xs) ≡ length (cond b (x ∷ filter f xs) (filter f xs)) + length (cond (not b) (x ∷ filter (λ x. not (f x)) xs) (filter (λ x. not (f x)) xs))) [
        | true ↦ omega (arith, rest)
        | false ↦ omega (arith, rest)
      ]

  pub map_among : {T : Type 0} (f g : K → T) (xs : List K) → AllByRecursion (λ x. f x ≡ g x) xs → map f xs ≡ map g xs
  map_among f g [] h = refl
  map_among f g (x ∷ xs) h = λ i. h.0 i ∷ map_among f g xs h.1 i

pub either : {P : Type 0} (a b : Bool) → (a ≡ true → P) → (b ≡ true → P) → (a || b) ≡ true → P
either true b f g h = f refl
either false b f g h = g h

-- what holds of each holds of a member
pub of_member : {K : Type 0} (R : K → K → Ordering) → CmpEqualImpliesEq R → (P : K → Type 0) (xs : List K) → AllByRecursion P xs → (q : K) → has R xs q ≡ true → P q
unfolding has
of_member R exact P [] h q m = absurd (false≢true m)
of_member R exact P (x ∷ xs) h q m =
    either (eq_by_cmp R q x) (list_any (eq_by_cmp R q) xs)
    (λ e. subst P (sym (exact q x ((Equal-is (R q x)).0 e))) h.0)
    (λ e. of_member R exact P xs h.1 q e) m

-- of two sides, the one that f keeps
pub left_kept : (f a b : Bool) → (a ≡ true → f ≡ true) → (b ≡ true → f ≡ false) → (f && (a || b)) ≡ a
left_kept true true b h k = refl
left_kept true false true h k = k refl
left_kept true false false h k = refl
left_kept false true b h k = h refl
left_kept false false b h k = refl

pub right_kept : (f a b : Bool) → (a ≡ true → f ≡ true) → (b ≡ true → f ≡ false) → (not f && (a || b)) ≡ b
right_kept false true b h k = absurd (false≢true (h refl))
right_kept false false b h k = refl
right_kept true a true h k = sym (k refl)
right_kept true a false h k = refl

-- what two things that hold of each give holds of each
pub all_both : {K : Type 0} (P Q R : K → Type 0) (xs : List K) → ((x : K) → P x → Q x → R x) → AllByRecursion P xs → AllByRecursion Q xs → AllByRecursion R xs
all_both P Q R [] f h k = tt
all_both P Q R (x ∷ xs) f h k = (f x h.0 k.0, all_both P Q R xs f h.1 k.1)
