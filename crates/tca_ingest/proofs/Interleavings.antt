-- A journal that passes close is an interleaving of their calls.
use Rattle.std.proofs.Common.{◌≡◌, ◌≢◌, ◌≤◌, ℕ, suc, ◌+◌, Bool, true, false, ◌||◌, cond, List, [], ◌∷◌, ◌==◌, length, map, refl, sym, ap, ◌∙◌, subst, arith, inl, inr}
use Rattle.std.proofs.lemmas.Bool.{eqb-true, ne_eqb, false≢true}
use Rattle.std.proofs.lemmas.List.Elements.{recursion_from_All}
use Rattle.std.proofs.lemmas.List.Sums.{sum_by-cons}
use Rattle.std.specs.List.{AllPairs, AllByRecursion, list_any}
use Rattle.tca_ingest.specs.Entries.{EntryView, pass_of}
use Rattle.tca_ingest.specs.Passes.{PassView, calls_of, count_of, AreClosing, Takes, IsInterleaving, lists_of}
use Rattle.tca_ingest.proofs.Pairs.{Pairwise, pairwise}

-- each number differs from those after it
abbrev pub Apart : List ℕ → Type 0
Apart [] = Unit {0}
Apart (k ∷ ks) = AllByRecursion (λ m. k ≢ m) ks × Apart ks

abbrev among : ℕ → List ℕ → Bool
among n ks = list_any (λ k. n == k) ks

abbrev one_if : Bool → ℕ
one_if b = cond b 1 0

not_among : (n : ℕ) (ks : List ℕ) → AllByRecursion (λ m. n ≢ m) ks → among n ks ≡ false
not_among n [] h = refl
not_among n (k ∷ ks) h = ap (λ b. b || among n ks) (ne_eqb n k h.0) ∙ not_among n ks h.1

-- the calls of passes with these numbers
abbrev split : List EntryView → List ℕ → List (List EntryView)
split xs ks = map (λ k. calls_of k xs) ks

abbrev pub total : List EntryView → List ℕ → ℕ
total xs [] = 0
total xs (k ∷ ks) = length (calls_of k xs) + total xs ks

-- one entry more belongs to one of the numbers, or to none
total_step : (x : EntryView) (xs : List EntryView) (ks : List ℕ) → Apart ks → total (x ∷ xs) ks ≡ total xs ks + one_if (among (pass_of x) ks)
total_step x xs [] apart = omega arith
total_step x xs (k ∷ ks) apart =
    let rest : total (x ∷ xs) ks ≡ total xs ks + one_if (among (pass_of x) ks) = total_step x xs ks apart.1 in
    elim (pass_of x == k) as (λ b. pass_of x == k ≡ b → length (cond b (x ∷ calls_of k xs) (calls_of k xs)) + total (x ∷ xs) ks ≡ (length (calls_of k xs) + total xs ks) + one_if (b || among (pass_of x) ks)) [
      | true ↦ λ is.
          let none : among (pass_of x) ks ≡ false = not_among (pass_of x) ks (subst (λ z. AllByRecursion (λ m. z ≢ m) ks) (sym (eqb-true (pass_of x) k is)) apart.0) in
          let same : total (x ∷ xs) ks ≡ total xs ks + 0 = rest ∙ ap (λ b. total xs ks + one_if b) none in
          more (length (calls_of k xs)) (total (x ∷ xs) ks) (total xs ks) same
      | false ↦ λ is. plain (length (calls_of k xs)) (total (x ∷ xs) ks) (total xs ks) (one_if (among (pass_of x) ks)) rest
    ] refl where
      more : (a b c : ℕ) → b ≡ c + 0 → suc a + b ≡ (a + c) + 1
      more a b c e = omega (arith, e)

      plain : (a b c d : ℕ) → b ≡ c + d → a + b ≡ (a + c) + d
      plain a b c d e = omega (arith, e)

total_none : (ks : List ℕ) → total [] ks ≡ 0
total_none [] = refl
total_none (k ∷ ks) = omega (arith, total_none ks)

pub total_most : (xs : List EntryView) (ks : List ℕ) → Apart ks → total xs ks ≤ length xs
total_most [] ks apart = subst (λ n. n ≤ 0) (sym (total_none ks)) (omega arith)
total_most (x ∷ xs) ks apart = least (total (x ∷ xs) ks) (total xs ks) (length xs) (among (pass_of x) ks) (total_step x xs ks apart) (total_most xs ks apart) where
  least : (a b n : ℕ) (t : Bool) → a ≡ b + one_if t → b ≤ n → a ≤ suc n
  least a b n true e l = omega (arith, e, l)
  least a b n false e l = omega (arith, e, l)

-- where the counts agree, each entry belongs to one of the numbers
total_all : (x : EntryView) (xs : List EntryView) (ks : List ℕ) → Apart ks → total (x ∷ xs) ks ≡ suc (length xs) → (among (pass_of x) ks ≡ true) × (total xs ks ≡ length xs)
total_all x xs ks apart whole = parts (among (pass_of x) ks) (total (x ∷ xs) ks) (total xs ks) (length xs) (total_step x xs ks apart) (total_most xs ks apart) whole where
  parts : (t : Bool) (a b n : ℕ) → a ≡ b + one_if t → b ≤ n → a ≡ suc n → (t ≡ true) × (b ≡ n)
  parts true a b n e l w = (refl, omega (arith, e, l, w))
  parts false a b n e l w = absurd (omega (arith, e, l, w))

others_stay : (x : EntryView) (xs : List EntryView) (ks : List ℕ) → AllByRecursion (λ m. pass_of x ≢ m) ks → split (x ∷ xs) ks ≡ split xs ks
others_stay x xs [] h = refl
others_stay x xs (k ∷ ks) h = λ i. cond (ne_eqb (pass_of x) k h.0 i) (x ∷ calls_of k xs) (calls_of k xs) ∷ others_stay x xs ks h.1 i

takes_first : (x : EntryView) (xs : List EntryView) (ks : List ℕ) → Apart ks → among (pass_of x) ks ≡ true → Takes x (split (x ∷ xs) ks) (split xs ks)
takes_first x xs [] apart e = absurd (false≢true e)
takes_first x xs (k ∷ ks) apart e =
    elim (pass_of x == k) as (λ b. pass_of x == k ≡ b → (b || among (pass_of x) ks) ≡ true → Takes x (cond b (x ∷ calls_of k xs) (calls_of k xs) ∷ split (x ∷ xs) ks) (calls_of k xs ∷ split xs ks)) [
      | true ↦ λ is e. inl (
        calls_of k xs,
        refl,
        ap (λ (ls : List (List EntryView)). calls_of k xs ∷ ls) (sym (others_stay x xs ks (subst (λ z. AllByRecursion (λ m. z ≢ m) ks) (sym (eqb-true (pass_of x) k is)) apart.0))),
      )
      | false ↦ λ is e. inr (split xs ks, refl, takes_first x xs ks apart.1 e)
    ] refl e

none_left : (ks : List ℕ) → AllByRecursion (λ l. l ≡ []) (split [] ks)
none_left [] = tt
none_left (k ∷ ks) = (refl, none_left ks)

interleaves : (ks : List ℕ) (xs : List EntryView) → Apart ks → total xs ks ≡ length xs → IsInterleaving (split xs ks) xs
interleaves ks [] apart whole = none_left ks
interleaves ks (x ∷ xs) apart whole =
    let rest = total_all x xs ks apart whole in
    (split xs ks, takes_first x xs ks apart rest.0, interleaves ks xs apart rest.1)

abbrev pub numbers : List PassView → List ℕ
numbers passes = map (λ p. p.number) passes

numbers_apart : (ps : List PassView) → Pairwise (λ p q. p.number ≢ q.number) ps → Apart (numbers ps)
numbers_apart [] h = tt
numbers_apart (p ∷ ps) h = (all_numbers p.number ps h.0, numbers_apart ps h.1) where
  all_numbers : (n : ℕ) (ps : List PassView) → AllByRecursion (λ q. n ≢ q.number) ps → AllByRecursion (λ m. n ≢ m) (numbers ps)
  all_numbers n [] h = tt
  all_numbers n (p ∷ ps) h = (h.0, all_numbers n ps h.1)

pub passes_apart : (ps : List PassView) → AllPairs (λ p q. p.number ≢ q.number) ps → Apart (numbers ps)
passes_apart ps h = numbers_apart ps (pairwise (λ p q. p.number ≢ q.number) ps h)

its_lists : (journal : List EntryView) (ps : List PassView) → AllByRecursion (λ p. calls_of p.number journal ≡ p.calls) ps → split journal (numbers ps) ≡ lists_of ps
its_lists journal [] h = refl
its_lists journal (p ∷ ps) h = λ i. h.0 i ∷ its_lists journal ps h.1 i

its_total : (journal : List EntryView) (ps : List PassView) → AllByRecursion (λ p. calls_of p.number journal ≡ p.calls) ps → total journal (numbers ps) ≡ count_of ps
its_total journal [] h = refl
its_total journal (p ∷ ps) h = (λ i. length (h.0 i) + its_total journal ps h.1 i) ∙ sym (sum_by-cons (λ p. length p.calls) p ps)

pub closing_interleaves : (journal : List EntryView) (passes : List PassView) → AreClosing journal passes → IsInterleaving (lists_of passes) journal
closing_interleaves journal passes is =
    let each = recursion_from_All (λ p. calls_of p.number journal ≡ p.calls) passes is.each in
    subst (λ ls. IsInterleaving ls journal) (its_lists journal passes each)
    (interleaves (numbers passes) journal (passes_apart passes is.apart) (its_total journal passes each ∙ is.count))
