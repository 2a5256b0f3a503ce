-- The parts of a text between its colons.
use Rattle.std.proofs.Common.{◌≡◌, ◌∙◌, ◌<◌, ◌≤◌, ◌+◌, ℕ, suc, true, false, cond, eqb, not, List, [], ◌∷◌, ◌++◌, length, take, drop, ap, refl, sym, arith}
use Rattle.std.specs.Prelude.{Option, Some, None, MatchOption, ◌&&◌}
use Rattle.std.specs.Borrow.{Bor}
use Rattle.std.proofs.lemmas.Str.Pattern.{IsSplitOnceResult, split_once_first}
use Rattle.std.specs.List.{position_or_len, before_first, after_first, list_all, AllByRecursion}
use Rattle.std.proofs.lemmas.Bool.{eqb-true}
use Rattle.tca_meters.specs.MeterSpecs.{parts_of, onto_first, IsPart, with_colons, PartsMakeText, OnlyParts}

-- no colon: the text is its only part
pub only_part : (text : List ℕ) → position_or_len (λ b. eqb b 58) text ≡ length text → parts_of text ≡ text ∷ []
unfolding parts_of
only_part [] h = refl
only_part (c ∷ cs) h =
    elim (eqb c 58) as (λ t. cond (not t) (1 + position_or_len (λ b. eqb b 58) cs) 0 ≡ length (c ∷ cs) → cond t ([] ∷ parts_of cs) (onto_first c (parts_of cs)) ≡ (c ∷ cs) ∷ []) [
      | true ↦ λ e. absurd (omega (arith, e))
      | false ↦ λ e. ap (onto_first c) (only_part cs (omega (arith, e)))
    ] h

-- one element more in front, where a list is cut
cut_later : (n c : ℕ) (cs : List ℕ) → onto_first c (take n cs ∷ parts_of (drop (n + 1) cs)) ≡ take (1 + n) (c ∷ cs) ∷ parts_of (drop (1 + n + 1) (c ∷ cs))
cut_later n c cs =
    let first : 1 + n ≡ suc n = omega arith in
    let second : suc n + 1 ≡ suc (n + 1) = omega arith in
    rw (first, second) refl

-- else the first part stands before the first colon
pub first_part : (text : List ℕ) → position_or_len (λ b. eqb b 58) text < length text → parts_of text ≡ before_first (λ b. eqb b 58) text ∷ parts_of (after_first (λ b. eqb b 58) text)
unfolding parts_of
first_part [] h = absurd (omega (arith, h))
first_part (c ∷ cs) h =
    elim (eqb c 58) as (λ t. cond (not t) (1 + position_or_len (λ b. eqb b 58) cs) 0 < length (c ∷ cs)
    → cond t ([] ∷ parts_of cs) (onto_first c (parts_of cs)) ≡ take (cond (not t) (1 + position_or_len (λ b. eqb b 58) cs) 0) (c ∷ cs) ∷ parts_of (drop (cond (not t) (1 + position_or_len (λ b. eqb b 58) cs) 0 + 1) (c ∷ cs))) [
      | true ↦ λ e. refl
      | false ↦ λ e. ap (onto_first c) (first_part cs (omega (arith, e))) ∙ cut_later (position_or_len (λ b. eqb b 58) cs) c cs
    ] h

-- what a split at the first colon tells of the parts
pub split_parts : (text : List ℕ) (r : Option (Bor (List ℕ) × Bor (List ℕ))) → IsSplitOnceResult 58 text r → MatchOption r (parts_of text ≡ text ∷ []) (λ x. parts_of text ≡ x.0.now ∷ parts_of x.1.now)
split_parts text None h = only_part text (split_once_first 58 text None h (omega arith))
split_parts text (Some x) h =
    let all = split_once_first 58 text (Some x) h (omega arith) in
    first_part text all.0 ∙ rw (all.1, all.2) refl

one_at_least : (c : ℕ) (parts : List (List ℕ)) → 1 ≤ length (onto_first c parts)
one_at_least c [] = omega arith
one_at_least c (part ∷ parts) = omega arith

-- there is always a part
pub some_part : (text : List ℕ) → 1 ≤ length (parts_of text)
unfolding parts_of
some_part [] = omega arith
some_part (c ∷ cs) =
    elim (eqb c 58) as (λ t. 1 ≤ length (cond t ([] ∷ parts_of cs) (onto_first c (parts_of cs)))) [
      | true ↦ omega arith
      | false ↦ one_at_least c (parts_of cs)
    ]

colon_first : (parts : List (List ℕ)) → 1 ≤ length parts → with_colons ([] ∷ parts) ≡ 58 ∷ with_colons parts
unfolding with_colons
colon_first [] h = absurd (omega (arith, h))
colon_first (part ∷ parts) h = refl

first_longer : (c : ℕ) (parts : List (List ℕ)) → 1 ≤ length parts → with_colons (onto_first c parts) ≡ c ∷ with_colons parts
unfolding with_colons
first_longer c [] h = absurd (omega (arith, h))
first_longer c (part ∷ []) h = refl
first_longer c (part ∷ next ∷ parts) h = refl

make_text : (text : List ℕ) → with_colons (parts_of text) ≡ text
unfolding parts_of with_colons
make_text [] = refl
make_text (c ∷ cs) =
    elim (eqb c 58) as (λ t. eqb c 58 ≡ t → with_colons (cond t ([] ∷ parts_of cs) (onto_first c (parts_of cs))) ≡ c ∷ cs) [
      | true ↦ λ is. colon_first (parts_of cs) (some_part cs) ∙ ap (λ (x : List ℕ). 58 ∷ x) (make_text cs) ∙ ap (λ (n : ℕ). n ∷ cs) (sym (eqb-true c 58 is))
      | false ↦ λ is. first_longer c (parts_of cs) (some_part cs) ∙ ap (λ (x : List ℕ). c ∷ x) (make_text cs)
    ] refl

part_longer : (c : ℕ) (part : List ℕ) → eqb c 58 ≡ false → IsPart part → IsPart (c ∷ part)
part_longer c part is h = rw is h

parts_longer : (c : ℕ) (parts : List (List ℕ)) → eqb c 58 ≡ false → AllByRecursion IsPart parts → AllByRecursion IsPart (onto_first c parts)
parts_longer c [] is h = (part_longer c [] is refl, tt)
parts_longer c (part ∷ parts) is h = (part_longer c part is h.0, h.1)

are_parts : (text : List ℕ) → AllByRecursion IsPart (parts_of text)
unfolding parts_of
are_parts [] = (refl, tt)
are_parts (c ∷ cs) =
    elim (eqb c 58) as (λ t. eqb c 58 ≡ t → AllByRecursion IsPart (cond t ([] ∷ parts_of cs) (onto_first c (parts_of cs)))) [
      | true ↦ λ is. (refl, are_parts cs)
      | false ↦ λ is. parts_longer c (parts_of cs) is (are_parts cs)
    ] refl

pub parts_make_text : PartsMakeText
parts_make_text text = (make_text text, are_parts text)

-- what has no colon is its only part
part_alone : (part : List ℕ) → IsPart part → parts_of part ≡ part ∷ []
unfolding parts_of
part_alone [] h = refl
part_alone (c ∷ cs) h =
    elim (eqb c 58) as (λ t. (not t && list_all (λ c. not (eqb c 58)) cs) ≡ true → cond t ([] ∷ parts_of cs) (onto_first c (parts_of cs)) ≡ (c ∷ cs) ∷ []) [
      | true ↦ λ h. absurd cc
      | false ↦ λ h. ap (onto_first c) (part_alone cs h)
    ] h

-- before a colon it is the first one
part_before : (part rest : List ℕ) → IsPart part → parts_of (part ++ (58 ∷ rest)) ≡ part ∷ parts_of rest
unfolding parts_of
part_before [] rest h = refl
part_before (c ∷ cs) rest h =
    elim (eqb c 58) as (λ t. (not t && list_all (λ c. not (eqb c 58)) cs) ≡ true
    → cond t ([] ∷ parts_of (cs ++ (58 ∷ rest))) (onto_first c (parts_of (cs ++ (58 ∷ rest)))) ≡ (c ∷ cs) ∷ parts_of rest) [
      | true ↦ λ h. absurd cc
      | false ↦ λ h. ap (onto_first c) (part_before cs rest h)
    ] h

pub only_parts : OnlyParts
unfolding with_colons
only_parts [] some h = absurd (omega (arith, some))
only_parts (part ∷ []) some h = part_alone part h.0
only_parts (part ∷ next ∷ parts) some h = part_before part (with_colons (next ∷ parts)) h.0 ∙ ap (λ (x : List (List ℕ)). part ∷ x) (only_parts (next ∷ parts) (omega arith) h.1)
