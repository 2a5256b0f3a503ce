-- Passes whose calls are found in the journal, and that have as many entries together, close it.
use Rattle.std.proofs.Common.{◌≡◌, ◌≢◌, ◌⊎◌, ◌≤◌, ℕ, zero, suc, ◌+◌, ◌-◌, true, false, cond, Some, List, [], ◌∷◌, ◌++◌, ◌==◌, length, drop, slice_get, refl, sym, ap, ◌∙◌, subst, arith, inl, inr}
use Rattle.std.proofs.lemmas.List.{drop-drop}
use Rattle.std.proofs.lemmas.Bool.{eq-eqb}
use Rattle.std.proofs.lemmas.List.Elements.{recursion_from_All, All-from_recursion}
use Rattle.std.proofs.lemmas.List.Sums.{sum_by-cons}
use Rattle.std.specs.List.{All, AllPairs, AllByRecursion}
use Rattle.tca_ingest.specs.Entries.{EntryView, pass_of}
use Rattle.tca_ingest.specs.Passes.{PassView, calls_of, count_of, AreAtFrom, IsFound, AreClosing}
use Rattle.tca_ingest.proofs.Interleavings.{numbers, passes_apart, total, total_most}

-- the first list is the second without some of its entries
abbrev Within : List EntryView → List EntryView → Type 0
Within [] ys = Unit {0}
Within (x ∷ xs) [] = ⊥
Within (x ∷ xs) (y ∷ ys) = ((x ≡ y) × Within xs ys) ⊎ Within (x ∷ xs) ys

within_more : (xs ys : List EntryView) (y : EntryView) → Within xs ys → Within xs (y ∷ ys)
within_more [] ys y h = tt
within_more (x ∷ xs) ys y h = inr h

within_drop : (n : ℕ) (xs ys : List EntryView) → Within xs (drop n ys) → Within xs ys
within_drop zero xs ys h = h
within_drop (suc n) xs [] h = h
within_drop (suc n) xs (y ∷ ys) h = within_more xs ys y (within_drop n xs ys h)

within_length : (xs ys : List EntryView) → Within xs ys → length xs ≤ length ys
within_length [] ys h = omega arith
within_length (x ∷ xs) [] h = absurd h
within_length (x ∷ xs) (y ∷ ys) (inl h) = omega (arith, within_length xs ys h.1)
within_length (x ∷ xs) (y ∷ ys) (inr h) = omega (arith, within_length (x ∷ xs) ys h)

-- with as many entries it is the whole
within_whole : (xs ys : List EntryView) → Within xs ys → length ys ≤ length xs → ys ≡ xs
within_whole [] [] h l = refl
within_whole [] (y ∷ ys) h l = absurd (omega arith)
within_whole (x ∷ xs) [] h l = absurd h
within_whole (x ∷ xs) (y ∷ ys) (inl h) l = λ i. sym h.0 i ∷ within_whole xs ys h.1 (omega arith) i
within_whole (x ∷ xs) (y ∷ ys) (inr h) l = absurd (omega (arith, within_length (x ∷ xs) ys h))

-- entries of a number that are within the journal are within its entries of that number
within_calls : (number : ℕ) (xs ys : List EntryView) → AllByRecursion (λ e. pass_of e ≡ number) xs → Within xs ys → Within xs (calls_of number ys)
within_calls number [] ys whose h = tt
within_calls number (x ∷ xs) [] whose h = h
within_calls number (x ∷ xs) (y ∷ ys) whose (inl h) =
    let its : pass_of y == number ≡ true = eq-eqb (pass_of y) number (ap (λ e. pass_of e) (sym h.0) ∙ whose.0) in
    subst (λ b. Within (x ∷ xs) (cond b (y ∷ calls_of number ys) (calls_of number ys))) (sym its) (inl (h.0, within_calls number xs ys whose.1 h.1))
within_calls number (x ∷ xs) (y ∷ ys) whose (inr h) =
    elim (pass_of y == number) as (λ b. Within (x ∷ xs) (cond b (y ∷ calls_of number ys) (calls_of number ys))) [
      | true ↦ inr (within_calls number (x ∷ xs) ys whose h)
      | false ↦ within_calls number (x ∷ xs) ys whose h
    ]

-- from a place where an entry is
drop_there : (journal : List EntryView) (place : ℕ) (e : EntryView) → slice_get journal place ≡ Some e → drop place journal ≡ e ∷ drop (suc place) journal
drop_there [] place e is = absurd cc
drop_there (x ∷ xs) zero e is = let same : x ≡ e = cc in ap (λ z. z ∷ xs) same
drop_there (x ∷ xs) (suc place) e is = drop_there xs place e is

within_from : (low : ℕ) (places : List ℕ) (journal calls : List EntryView) → AreAtFrom low places journal calls → Within calls (drop low journal)
within_from low places journal [] h = tt
within_from low [] journal (e ∷ es) h = absurd h
within_from low (place ∷ places) journal (e ∷ es) h =
    let here : Within (e ∷ es) (drop place journal) = subst (Within (e ∷ es)) (sym (drop_there journal place e h.1)) (inl (refl, within_from (suc place) places journal es h.2)) in
    let further : drop place journal ≡ drop (place - low) (drop low journal) = ap (λ m. drop m journal) (apart low place h.0) ∙ sym (drop-drop (place - low) low journal) in
    within_drop (place - low) (e ∷ es) (drop low journal) (subst (Within (e ∷ es)) further here) where
      apart : (a b : ℕ) → a ≤ b → b ≡ a + (b - a)
      apart a b l = omega (arith, l)

found_within : (journal : List EntryView) (p : PassView) → IsFound journal p → Within p.calls (calls_of p.number journal)
found_within journal p found = within_calls p.number p.calls journal (recursion_from_All (λ e. pass_of e ≡ p.number) p.calls found.whose) (within_from 0 found.places journal p.calls found.at)

-- each has at most as many entries as the journal has of its number
found_count : (journal : List EntryView) (ps : List PassView) → AllByRecursion (IsFound journal) ps → count_of ps ≤ total journal (numbers ps)
found_count journal [] h = omega arith
found_count journal (p ∷ ps) h = sums (length p.calls) (count_of ps) (length (calls_of p.number journal)) (total journal (numbers ps)) (count_of (p ∷ ps)) (within_length p.calls (calls_of p.number journal) (found_within journal p h.0)) (found_count journal ps h.1) (sum_by-cons (λ p. length p.calls) p ps) where
  sums : (a b c d e : ℕ) → a ≤ c → b ≤ d → e ≡ a + b → e ≤ c + d
  sums a b c d e l m is = omega (arith, l, m, is)

-- so where all have as many, each has all
found_all : (journal : List EntryView) (ps : List PassView) → AllByRecursion (IsFound journal) ps → total journal (numbers ps) ≤ count_of ps → AllByRecursion (λ p. calls_of p.number journal ≡ p.calls) ps
found_all journal [] h l = tt
found_all journal (p ∷ ps) h l =
    let within = found_within journal p h.0 in
    let both = parts (length p.calls) (count_of ps) (length (calls_of p.number journal)) (total journal (numbers ps)) (count_of (p ∷ ps)) (within_length p.calls (calls_of p.number journal) within) (found_count journal ps h.1) (sum_by-cons (λ p. length p.calls) p ps) l in
    (within_whole p.calls (calls_of p.number journal) within both.0, found_all journal ps h.1 both.1) where
      parts : (a b c d e : ℕ) → a ≤ c → b ≤ d → e ≡ a + b → c + d ≤ e → (c ≤ a) × (d ≤ b)
      parts a b c d e l m is whole = (omega (arith, l, m, is, whole), omega (arith, l, m, is, whole))

pub found_closing : (journal : List EntryView) (passes : List PassView) → AllPairs (λ p q. p.number ≢ q.number) passes → All (IsFound journal) passes → count_of passes ≡ length journal → AreClosing journal passes
found_closing journal passes apart found count =
    let most : total journal (numbers passes) ≤ length journal = total_most journal (numbers passes) (passes_apart passes apart) in
    record {
      each = All-from_recursion (λ p. calls_of p.number journal ≡ p.calls) passes (found_all journal passes (recursion_from_All (IsFound journal) passes found) (subst (λ n. total journal (numbers passes) ≤ n) (sym count) most));
      apart = apart;
      count = count;
    }

-- where a list of places ends, and one place more
abbrev pub next_place : ℕ → List ℕ → ℕ
next_place low [] = low
next_place low (place ∷ places) = next_place (suc place) places

pub at_more : (low : ℕ) (places : List ℕ) (journal calls : List EntryView) (place : ℕ) (e : EntryView) → AreAtFrom low places journal calls → next_place low places ≤ place → slice_get journal place ≡ Some e → AreAtFrom low (places ++ place ∷ []) journal (calls ++ e ∷ [])
at_more low [] journal [] place e h l is = (l, is, tt)
at_more low [] journal (x ∷ calls) place e h l is = absurd h
at_more low (p ∷ places) journal [] place e h l is = absurd h
at_more low (p ∷ places) journal (x ∷ calls) place e h l is = (h.0, h.1, at_more (suc p) places journal calls place e h.2 l is)
